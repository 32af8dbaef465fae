-- The tries of one edit, and what they make of the pairs that are left over.
use Rattle.std.specs.Prelude.{◌≡◌, ◌⊎◌, ℕ, ◌+◌, ◌-◌, ◌<◌, ◌≤◌, Bool, true, false, List, [], ◌∷◌, ◌++◌}
use Rattle.std.specs.List.{list_any}
use Rattle.edit_history.specs.declared.history.Edit.{Edit}
use Rattle.edit_history.specs.declared.history.Reply.{Reply}
use Rattle.edit_history.specs.Edits.{share_point}
use Rattle.claim_table.specs.declared.view.Act.{Act}
use Rattle.claim_table.specs.Trails.{misses}
use Rattle.grid_claims.specs.Passes.{Standing}
use Rattle.claim_table.specs.Plays.{entry_of}
use Rattle.plain_laws.specs.Running.{Pair}
use Rattle.edit_workers.specs.declared.working.Tried.{Tried}
use Rattle.edit_workers.specs.declared.working.Tried.TheVariants.{Made, LeftOver}

-- the pass owns all parts of its table
abbrev pub OwnsAll : Standing → Type 0
OwnsAll p = (p.first ≡ 0) × (p.parts ≡ p.table.parts)

-- The pass made the edit, after fewer failed claims than so many: it has one entry more, whose number it had not seen,
-- and one edit less to make.
pub record HasMadeOne (most tag : ℕ) (edit : Edit) (old new : Standing) : Type 0 where
  pub number : ℕ
  pub reply : Reply
  pub later : old.seen ≤ number
  pub steps : List Act
  pub few : misses steps < most
  pub new_is : new ≡ record old {
    left = old.left - 1;
    seen = number + 1;
    made = old.made ++ entry_of number old.first tag edit reply ∷ [];
    trail = old.trail ++ steps;
  }

-- Just so many claims failed, and the pass is as before, but for its trail. Where one failed, some part is of another
-- pass.
pub record HasMissed (count : ℕ) (old new : Standing) : Type 0 where
  pub steps : List Act
  pub missed : misses steps ≡ count
  pub new_is : new ≡ record old { trail = old.trail ++ steps }
  pub others : 0 < count → ¬ (OwnsAll old)

-- 64 claims failed at most, and the pass is as before, but for its trail
abbrev pub HasMissedSome : Standing → Standing → Type 0
HasMissedSome old new = (count : ℕ) × (count ≤ 64) × HasMissed count old new

-- what came of so many tries of an edit
abbrev pub IsTried : ℕ → ℕ → Edit → Tried → Standing → Standing → Type 0
IsTried count tag edit Made old new = HasMadeOne count tag edit old new
IsTried count tag edit LeftOver old new = HasMissed count old new

-- some pair of the list shares a point with this edit
abbrev pub shares_with : Edit → List Pair → Bool
shares_with edit l = list_any (λ x. share_point x.1 edit) l

-- A pair that shares a point with one left over was put behind them, and not tried.
pub record FollowsLeft (pair : Pair) (before left : List Pair) (old new : Standing) : Type 0 where
  pub shared : shares_with pair.1 before ≡ true
  pub behind : left ≡ before ++ pair ∷ []
  pub as_before : new ≡ old

-- One that shares none with them was tried to the end.
pub record IsLeftOver (pair : Pair) (before left : List Pair) (old new : Standing) : Type 0 where
  pub first : shares_with pair.1 before ≡ false
  pub behind : left ≡ before ++ pair ∷ []
  pub missed : HasMissed 64 old new

-- Or it was made.
pub record IsTriedAndMade (pair : Pair) (before left : List Pair) (old new : Standing) : Type 0 where
  pub first : shares_with pair.1 before ≡ false
  pub none : left ≡ before
  pub made : HasMadeOne 64 pair.0 pair.1 old new

-- one of the three
abbrev pub IsWorkedOn : Pair → List Pair → List Pair → Standing → Standing → Type 0
IsWorkedOn pair before left old new =
    FollowsLeft pair before left old new ⊎ (IsLeftOver pair before left old new ⊎ IsTriedAndMade pair before left old
    new)
