-- What each step of the table makes of the pass that takes it, and what it tells.
use Rattle.std.specs.Prelude.{◌≡◌, ◌≢◌, ◌⊎◌, ℕ, ◌+◌, ◌-◌, ◌^◌, ◌<◌, ◌≤◌, List, [], ◌∷◌, ◌++◌, length, max, replicate}
use Rattle.std.specs.Prelude.{slice_set, Option, None, Some}
use Rattle.std.specs.Option.{option_map_or}
use Rattle.atomic_table.specs.Table.{Me, Step, rest}
use Rattle.atomic_table.specs.Seated.{TableId}
use Rattle.edit_history.specs.declared.history.Edit.{Edit}
use Rattle.edit_history.specs.declared.history.Entry.{Entry}
use Rattle.edit_history.specs.declared.history.Reply.{Reply}
use Rattle.edit_history.specs.Edits.{reply_to}
use Rattle.cell_store.specs.Buckets.{BucketContent, bucket_at}
use Rattle.cell_store.specs.Shares.{Stands, Shows}
use Rattle.cell_store.specs.Touches.{HoldTouched, HoldNoOther}
use Rattle.claim_rule.specs.Boards.{in_hand_of, made_by}
use Rattle.claim_rule.specs.Good.{StartsWith, AreSharesOf}
use Rattle.claim_rule.specs.Events.{renewed_from}
use Rattle.claim_table.specs.declared.view.Act.TheVariants.{Claim, Miss, Commit, Release, Look}
use Rattle.claim_table.specs.declared.view.Child.{Child}
use Rattle.claim_table.specs.declared.view.View.{View}
use Rattle.cell_store.specs.Meshes.{by_number}
use Rattle.claim_table.specs.Lists.{entries_by, longer}
use Rattle.claim_table.specs.Trails.{IsExact}

abbrev pub Seated : Type 0
Seated = Me (Option BucketContent) View

abbrev pub At : Type 0
At = Step (Option BucketContent)

-- a seat of the table, in which a pass is live, and from which none was split off that has no seat yet
abbrev pub IsLiveIn : TableId → TableId → Seated → Type 0
IsLiveIn id own m = (own ≡ id) × (0 < m.0.parts) × (m.0.child ≡ None)

-- what a pass holds shows the set
abbrev pub HandShows : View → List ℕ → Type 0
HandShows v s = Shows (in_hand_of v.grid v.held) s

-- and stands for the history
abbrev pub HandStands : View → List Entry → Type 0
HandStands v h = Stands (in_hand_of v.grid v.held) h

-- ---- the view after a step

-- a claim that found 0
abbrev pub claims : View → ℕ → BucketContent → View
claims v b c = record v { held = slice_set v.held b (Some c); trail = v.trail ++ Claim b ∷ [] }

-- one that found the word of another pass
abbrev pub fails : View → ℕ → ℕ → View
fails v b word = record v { trail = v.trail ++ Miss b word ∷ [] }

-- a commit of this entry, which makes the history h
abbrev pub commits : View → List Entry → Entry → View
commits v h e = record v {
  held = renewed_from v.grid h 0 v.held;
  left = v.left - 1;
  seen = e.number + 1;
  made = v.made ++ e ∷ [];
  trail = v.trail ++ Commit e.number ∷ [];
}

-- a release
abbrev pub releases : View → ℕ → View
releases v b = record v { held = slice_set v.held b None; trail = v.trail ++ Release b ∷ [] }

-- a look
abbrev pub looks : View → ℕ → View
looks v found = record v { seen = found; trail = v.trail ++ Look found ∷ [] }

-- a look at every bucket, which all are in hand
abbrev pub shows : View → ℕ → List Entry → View
shows v found h = record v { seen = found; known = h; trail = v.trail ++ Look found ∷ [] }

-- a split: the new pass is there from this load of the ticket on
abbrev pub splits : View → ℕ → ℕ → ℕ → View
splits v parts left found = record v {
  parts = v.parts - parts;
  left = v.left - left;
  seen = found;
  made = entries_by v.first (v.parts - parts) v.made;
  child = Some (record {
    first = v.first + (v.parts - parts);
    parts = parts;
    left = left;
    seen = found;
    made = entries_by (v.first + (v.parts - parts)) parts v.made;
  });
}

-- the seat that gave its child away
abbrev pub without_child : View → View
without_child v = record v { child = None }

-- no pass
abbrev pub no_pass : View
no_pass = record {
  grid = 1;
  all = 1;
  opening = [];
  first = 0;
  parts = 0;
  left = 0;
  seen = 0;
  since = 0;
  held = None ∷ [];
  made = [];
  known = [];
  trail = [];
  child = None;
}

-- the child in a seat of its own, which knows what the other one knows
abbrev pub seated : View → Child → View
seated v c = record {
  grid = v.grid;
  all = v.all;
  opening = v.opening;
  first = c.first;
  parts = c.parts;
  left = c.left;
  seen = c.seen;
  since = c.seen;
  held = replicate (length v.held) None;
  made = c.made;
  known = v.known;
  trail = [];
  child = None;
}

abbrev pub child_of : View → View
child_of v = option_map_or (λ c. seated v c) v.child no_pass

-- a join
abbrev pub joins : View → View → View
joins v w = record v {
  parts = v.parts + w.parts;
  left = v.left + w.left;
  seen = max v.seen w.seen;
  made = by_number (v.made ++ w.made);
  known = longer v.known w.known;
}

-- ---- what a step tells

-- the word names a pass whose number is none of the parts
abbrev pub IsOthers : View → ℕ → Type 0
IsOthers v word = (0 < word) × ((word ≤ v.first) ⊎ (v.first + v.parts < word)) × (word ≤ v.all)

-- A claim: the content of the bucket comes to the pass, and what it holds then stands for some history; or the word
-- is another's.
abbrev pub Claimed : At → Seated → ℕ → Seated → Type 0
Claimed st m found m' =
    (b : ℕ) → st.word ≡ b + 1 →
    (found ≡ 0 → (c : BucketContent) × (m'.0 ≡ claims m.0 b c) × (m'.1 ≡ (b, Some c) ∷ m.1)
    × (bucket_at m.0.held b ≡ None) × (c.place ≡ Some (m.0.grid, b)) × ((h : List Entry) × HandStands m'.0 h))
    × (found ≢ 0 → (m' ≡ (fails m.0 b found, m.1)) × (bucket_at m.0.held b ≡ None → IsOthers m.0 found))

abbrev pub Released : At → Seated → ℕ → Seated → Type 0
Released st m found m' = (b : ℕ) → st.word ≡ b + 1 → (m'.0 ≡ releases m.0 b) × (m'.1 ≡ rest m.1)

abbrev pub Looked : At → Seated → ℕ → Seated → Type 0
Looked st m found m' = (m'.0 ≡ looks m.0 found) × (m'.1 ≡ m.1) × (m.0.seen ≤ found)

-- A look at buckets in hand: they are those of the history so far, of which the pass's own entries are those that it
-- made.
pub record Shown (m : Seated) (found : ℕ) (m' : Seated) : Type 0 where
  pub history : List Entry
  pub count : length history ≡ found
  pub stands : HandStands m.0 history
  pub known : StartsWith history m.0.known
  pub made : m.0.made ≡ made_by m.0.first m.0.parts (length m.0.opening) history
  pub later : m.0.seen ≤ found
  pub view : m'.0 ≡ shows m.0 found history
  pub slots : m'.1 ≡ m.1

-- What a pass needs for a commit: of every set that the buckets in its hands show, this is the reply, every touched
-- bucket is in hand, and
-- where the edit is exact no other is.
pub record IsReady (v : View) (edit : Edit) (reply : Reply) : Type 0 where
  pub right : (s : List ℕ) → HandShows v s → reply ≡ reply_to s edit
  pub touched : (s : List ℕ) → HandShows v s → HoldTouched v.grid s edit v.held
  pub exact : IsExact edit reply → (s : List ℕ) → HandShows v s → HoldNoOther v.grid s edit v.held

abbrev pub entry_of : ℕ → ℕ → ℕ → Edit → Reply → Entry
entry_of number by tag edit reply = record { number = number; by = by; tag = tag; edit = edit; reply = reply }

-- A commit: the history before it, for which the buckets in hand stood, and the view after it.
pub record Committed (tag : ℕ) (edit : Edit) (reply : Reply) (m : Seated) (found : ℕ) (m' : Seated) : Type 0 where
  pub history : List Entry
  pub count : length history ≡ found
  pub stands : HandStands m.0 history
  pub shares : AreSharesOf m.0.grid history m.0.held
  pub known : StartsWith history m.0.known
  pub later : m.0.seen ≤ found
  pub few : found < 2 ^ 32
  pub view : m'.0
      ≡ commits m.0 (history ++ entry_of found m.0.first tag edit reply ∷ [])
      (entry_of found m.0.first tag edit reply)
  pub slots : m'.1 ≡ m.1

-- A split: the load finds the ticket, and no allowance is above 2^32.
pub record SplitTold (parts left : ℕ) (m : Seated) (found : ℕ) (m' : Seated) : Type 0 where
  pub later : m.0.seen ≤ found
  pub few : m.0.left ≤ 2 ^ 32
  pub inside : m.0.first + m.0.parts ≤ 64
  pub view : m'.0 ≡ splits m.0 parts left found
  pub slots : m'.1 ≡ m.1
