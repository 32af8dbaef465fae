-- The set that a fold stands for.
use Rattle.std.specs.Prelude.{◌≡◌, ℕ, Bool, true, false, not, List, IfSome}
use Rattle.std.proofs.Common.{subst}
use Rattle.edit_outcomes.specs.declared.fold.Fold.{Fold}
use Rattle.edit_outcomes.specs.Folding.{AreAnchors, AreChanges, StandsFor}

-- what is new was not there
pub was_absent : (is_new there : Bool) → is_new ≡ not there → is_new ≡ true → there ≡ false
was_absent n true e f = absurd cc
was_absent n false e f = cc

-- what is not new was
pub was_there : (is_new there : Bool) → is_new ≡ not there → is_new ≡ false → there ≡ true
was_there n true e f = cc
was_there n false e f = absurd cc

-- a fold that stands for a set stands for the same set by another name
pub stands : (s t u : List ℕ) (fold : Fold) → t ≡ u → AreChanges s t fold.changes → IfSome fold.anchors (AreAnchors u) →
    StandsFor s u fold
stands s t u fold e c a = record { changes = subst (λ (v : List ℕ). AreChanges s v fold.changes) e c; anchors = a }
