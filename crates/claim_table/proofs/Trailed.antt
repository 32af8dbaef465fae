-- Trails with one more step.
use Rattle.std.specs.Prelude.{◌≡◌, ℕ, List, [], ◌∷◌, ◌++◌}
use Rattle.std.proofs.Common.{refl}
use Rattle.edit_history.specs.declared.history.Entry.{Entry}
use Rattle.claim_table.specs.declared.view.Act.{Act}
use Rattle.claim_table.specs.Trails.{in_hand, in_hand_from, in_hand_after, AreSteps, AreStepsFrom, IsStepOf}

-- what is in hand after one step more
from_snoc : (bs : List ℕ) (t : List Act) (a : Act) → in_hand_from bs (t ++ a ∷ []) ≡ in_hand_after (in_hand_from bs t) a
from_snoc bs [] a = refl
from_snoc bs (x ∷ t) a = from_snoc (in_hand_after bs x) t a

-- the same from no bucket in hand on
pub in_hand_snoc : (t : List Act) (a : Act) → in_hand (t ++ a ∷ []) ≡ in_hand_after (in_hand t) a
unfolding in_hand
in_hand_snoc t a = from_snoc [] t a

-- steps of a history with one more that is a step there are steps of it
steps_from_snoc : (g : ℕ) (h : List Entry) (bs : List ℕ) (t : List Act) (a : Act) → AreStepsFrom g h bs t →
    IsStepOf g h (in_hand_from bs t) a → AreStepsFrom g h bs (t ++ a ∷ [])
steps_from_snoc g h bs [] a s p = (p, tt)
steps_from_snoc g h bs (x ∷ t) a s p = (s.0, steps_from_snoc g h (in_hand_after bs x) t a s.1 p)

-- the same from no bucket in hand on
pub steps_snoc : (g : ℕ) (h : List Entry) (t : List Act) (a : Act) → AreSteps g h t → IsStepOf g h (in_hand t) a →
    AreSteps g h (t ++ a ∷ [])
unfolding in_hand
steps_snoc g h t a s p = steps_from_snoc g h [] t a s p
