-- What the calls make of a pass.
use Rattle.std.specs.Prelude.{◌≡◌, ◌⊎◌, ℕ, ◌+◌, ◌-◌, ◌*◌, ◌^◌, ◌<◌, ◌≤◌, List, [], ◌∷◌, ◌++◌, map, max, length}
use Rattle.std.specs.Prelude.{IsPermutation}
use Rattle.std.specs.List.{range_with_len}
use Rattle.list_laws.specs.Lists.{AreDistinct}
use Rattle.point_order.specs.declared.cell.Cell.{Cell}
use Rattle.point_order.specs.Complex.{complex}
use Rattle.edit_history.specs.declared.history.Edit.{Edit}
use Rattle.edit_history.specs.declared.history.Entry.{Entry}
use Rattle.edit_history.specs.declared.history.Reply.{Reply}
use Rattle.edit_history.specs.Edits.{reply_to}
use Rattle.edit_history.specs.Histories.{replay, IsLegal}
use Rattle.claim_rule.specs.Boards.{made_by}
use Rattle.claim_rule.specs.Good.{StartsWith}
use Rattle.claim_table.specs.declared.view.Act.{Act}
use Rattle.claim_table.specs.declared.view.Act.TheVariants.{Claim, Miss, Commit, Release, Look}
use Rattle.grid_claims.specs.declared.refused.Refused.{Refused}
use Rattle.grid_claims.specs.declared.refused.Refused.TheVariants.{Spent, Busy, Memory}
use Rattle.cell_store.specs.Meshes.{by_number}
use Rattle.cell_store.specs.Touches.{IsTouched}
use Rattle.point_order.specs.Sets.{IsIn}
use Rattle.claim_table.specs.Lists.{entries_by, longer}
use Rattle.claim_table.specs.Trails.{IsExact, AreAllTouched}
use Rattle.grid_claims.specs.Passes.{Opened, Standing}
use Rattle.claim_table.specs.Plays.{entry_of}

-- how many buckets a table has
abbrev pub buckets_of : Opened → ℕ
buckets_of t = t.grid * t.grid * t.grid

-- the first pass of a table
abbrev pub opening_pass : Opened → ℕ → Standing
opening_pass t allowance = record {
  table = t;
  first = 0;
  parts = t.parts;
  left = allowance;
  seen = length t.opening;
  made = [];
  known = t.opening;
  trail = [];
}

-- ---- steps

-- Each bucket is claimed once, then this step comes, and then the same buckets are released.
pub record AreClaimsAround (middle : List Act) (steps : List Act) : Type 0 where
  pub claims : List ℕ
  pub releases : List ℕ
  pub once : AreDistinct claims
  pub same : IsPermutation claims releases
  pub steps_are : steps ≡ map Claim claims ++ middle ++ map Release releases

-- ---- an edit

-- What the history was when an edit was committed. It is legal and begins with what the pass knew, its length is the
-- number of the entry, and the reply is that of the points that it leaves; all buckets that the edit touches were
-- claimed, and where it is exact no other.
pub record IsCommittedAfter (g : ℕ) (edit : Edit) (number : ℕ) (reply : Reply) (known : List Entry) (claims : List ℕ)
    (h : List Entry) : Type 0 where
  pub legal : IsLegal h
  pub knows : StartsWith h known
  pub count : length h ≡ number
  pub right : reply ≡ reply_to (replay h) edit
  pub touched : (b : ℕ) → IsTouched g (replay h) edit b → IsIn b claims
  pub exact : IsExact edit reply → AreAllTouched g (replay h) edit claims

-- The edit was made: the pass has one entry more, of this number and reply, it has so much less left, it has seen the
-- entry, and it took these
-- steps: claims of buckets of the table, one commit, which found the number, and the releases.
pub record IsEdited (tag : ℕ) (edit : Edit) (number : ℕ) (reply : Reply) (old new : Standing) : Type 0 where
  pub some_left : 0 < old.left
  pub later : old.seen ≤ number
  pub few : number < 2 ^ 32
  pub steps : List Act
  pub around : AreClaimsAround (Commit number ∷ []) steps
  pub below : (b : ℕ) → IsIn b around.claims → b < buckets_of old.table
  pub history : List Entry
  pub after : IsCommittedAfter old.table.grid edit number reply old.known around.claims history
  pub new_is : new ≡ record old {
    left = old.left - 1;
    seen = number + 1;
    made = old.made ++ entry_of number old.first tag edit reply ∷ [];
    trail = old.trail ++ steps;
  }

-- the pass is of the same table, and owns the same parts
abbrev pub IsStill : Standing → Standing → Type 0
IsStill old new = (new.table ≡ old.table) × (new.first ≡ old.first) × (new.parts ≡ old.parts)

-- The pass took steps, and is else as before: claims of buckets of the table, these steps, and the releases.
pub record IsAsBefore (middle : List Act) (old new : Standing) : Type 0 where
  pub steps : List Act
  pub around : AreClaimsAround middle steps
  pub below : (b : ℕ) → IsIn b around.claims → b < buckets_of old.table
  pub new_is : new ≡ record old { trail = old.trail ++ steps }

-- The word is that of a pass whose number is below the number of parts, and none of these.
pub record IsOthersWord (old : Standing) (word : ℕ) : Type 0 where
  pub some_pass : 0 < word
  pub of_parts : word ≤ old.table.parts
  pub others : (word ≤ old.first) ⊎ (old.first + old.parts < word)

-- What a refused call leaves. Spent: nothing is left, and nothing was done. Busy: this claim failed, and found this
-- word. Memory: no claim failed.
abbrev pub IsRefused : Standing → Refused → Standing → Type 0
IsRefused old Spent new = (old.left ≡ 0) × (new ≡ old)
IsRefused old (Busy bucket word) new =
    (0 < old.left) × IsOthersWord old word × IsAsBefore (Miss bucket word ∷ []) old new
IsRefused old Memory new = (0 < old.left) × IsAsBefore [] old new

-- the same of a snapshot, which asks for no allowance
abbrev pub IsUnshown : Standing → Refused → Standing → Type 0
IsUnshown old Spent new = ⊥
IsUnshown old (Busy bucket word) new = IsOthersWord old word × IsAsBefore (Miss bucket word ∷ []) old new
IsUnshown old Memory new = IsAsBefore [] old new

-- ---- passes

-- The pass was split: the new one has the last parts, the allowance and the entries of its parts; both know what the
-- old one knew, and have seen
-- the same. The new one has taken no step.
pub record IsSplit (parts allowance : ℕ) (old new other : Standing) : Type 0 where
  pub found : ℕ
  pub later : old.seen ≤ found
  pub new_is : new ≡ record old {
    parts = old.parts - parts;
    left = old.left - allowance;
    seen = found;
    made = entries_by old.first (old.parts - parts) old.made;
  }
  pub other_is : other ≡ record {
    table = old.table;
    first = old.first + (old.parts - parts);
    parts = parts;
    left = allowance;
    seen = found;
    made = entries_by (old.first + (old.parts - parts)) parts old.made;
    known = old.known;
    trail = [];
  }

-- two passes as one
abbrev pub joined : Standing → Standing → Standing
joined v w = record v {
  parts = v.parts + w.parts;
  left = v.left + w.left;
  seen = max v.seen w.seen;
  made = by_number (v.made ++ w.made);
  known = longer v.known w.known;
}

-- ---- snapshots

-- A snapshot: a legal history and its complex. It begins with what the pass knew, and now the pass knows it; the
-- entries of the pass's parts in it,
-- but for those with which the table began, are just those that it has made. It took these steps: a claim of every
-- bucket in turn, one look, which
-- found the history's length, and the releases.
pub record IsShown (h : List Entry) (cells : List Cell) (old new : Standing) : Type 0 where
  pub legal : IsLegal h
  pub cells_are : cells ≡ complex (replay h)
  pub knows : StartsWith h old.known
  pub later : old.seen ≤ length h
  pub own : old.made ≡ made_by old.first old.parts (length old.table.opening) h
  pub releases : List ℕ
  pub all : IsPermutation (range_with_len 0 (buckets_of old.table)) releases
  pub new_is : new ≡ record old {
    seen = length h;
    known = h;
    trail = old.trail
        ++ (map Claim (range_with_len 0 (buckets_of old.table)) ++ Look (length h) ∷ map Release releases);
  }
