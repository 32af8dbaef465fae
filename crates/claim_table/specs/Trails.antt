-- Trails: the steps of a pass, in order.
use Rattle.std.specs.Prelude.{◌≡◌, ℕ, ◌+◌, not, ◌==◌, ◌<◌, ◌↔◌, List, [], ◌∷◌, ◌++◌, length, take}
use Rattle.std.specs.List.{filter}
use mathlib.Core.Option.{some}
use lib.ListN.{get_elem?}
use Rattle.point_order.specs.Sets.{IsIn}
use Rattle.edit_history.specs.declared.history.Edit.{Edit}
use Rattle.edit_history.specs.declared.history.Entry.{Entry}
use Rattle.edit_history.specs.Histories.{replay}
use Rattle.cell_store.specs.Touches.{IsTouched}
pub use Rattle.cell_store.specs.Touches.{IsExact}
use Rattle.claim_table.specs.declared.view.Act.{Act}
use Rattle.claim_table.specs.declared.view.Act.TheVariants.{Claim, Miss, Commit, Release, Look}

-- the buckets claimed and not yet released, after one more step
abbrev pub in_hand_after : List ℕ → Act → List ℕ
in_hand_after bs (Claim b) = bs ++ b ∷ []
in_hand_after bs (Miss b word) = bs
in_hand_after bs (Commit n) = bs
in_hand_after bs (Release b) = filter (λ a. not (a == b)) bs
in_hand_after bs (Look n) = bs

-- after a trail that begins with these in hand
abbrev pub in_hand_from : List ℕ → List Act → List ℕ
in_hand_from bs [] = bs
in_hand_from bs (a ∷ trail) = in_hand_from (in_hand_after bs a) trail

-- the buckets claimed and not yet released in a trail, in the order of their claims
unfoldable pub in_hand : List Act → List ℕ
in_hand trail = in_hand_from [] trail

-- these are exactly the buckets that the edit touches
abbrev pub AreAllTouched : ℕ → List ℕ → Edit → List ℕ → Type 0
AreAllTouched g s edit bs = (b : ℕ) → IsIn b bs ↔ IsTouched g s edit b

-- A commit found number n with these buckets in hand: there is such an entry, and where it is exact the buckets are
-- those that it touched.
pub record IsCommitOf (g : ℕ) (h : List Entry) (bs : List ℕ) (n : ℕ) : Type 0 where
  pub below : n < length h
  pub exact : (e : Entry) → get_elem? h n ≡ some e → IsExact e.edit e.reply →
      AreAllTouched g (replay (take n h)) e.edit bs

-- a step, with these buckets in hand, is one of the history
abbrev pub IsStepOf : ℕ → List Entry → List ℕ → Act → Type 0
IsStepOf g h bs (Commit n) = IsCommitOf g h bs n
IsStepOf g h bs (Claim b) = Unit {0}
IsStepOf g h bs (Miss b word) = Unit {0}
IsStepOf g h bs (Release b) = Unit {0}
IsStepOf g h bs (Look n) = Unit {0}

-- so is each step of a trail that begins with these in hand
abbrev pub AreStepsFrom : ℕ → List Entry → List ℕ → List Act → Type 0
AreStepsFrom g h bs [] = Unit {0}
AreStepsFrom g h bs (a ∷ trail) = IsStepOf g h bs a × AreStepsFrom g h (in_hand_after bs a) trail

-- each step of a trail is one of the history
abbrev pub AreSteps : ℕ → List Entry → List Act → Type 0
AreSteps g h trail = AreStepsFrom g h [] trail

-- how many failed claims a trail has
abbrev pub misses : List Act → ℕ
misses [] = 0
misses (Miss b word ∷ trail) = misses trail + 1
misses (_ ∷ trail) = misses trail
