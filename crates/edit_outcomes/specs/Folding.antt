-- What is kept while the edits are made: how the set differs from the one before, and four points that show it solid.
use Rattle.std.specs.Prelude.{◌≡◌, ℕ, false, List, [], ◌∷◌, IfSome}
use Rattle.point_order.specs.Orientation.{is_flat}
use Rattle.point_order.specs.Sets.{IsIn, IsAscending}
use Rattle.edit_outcomes.specs.declared.changes.Changes.{Changes}
use Rattle.edit_outcomes.specs.declared.fold.Fold.{Fold}
use Rattle.edit_outcomes.specs.Outcomes.{lacking}

-- t is s without the points that are gone, and with those that came
pub record AreChanges (s t : List ℕ) (changes : Changes) : Type 0 where
  pub before : IsAscending s
  pub now : IsAscending t
  pub gone : changes.gone.keys ≡ lacking t s
  pub came : changes.came.keys ≡ lacking s t

-- all points of a list are of the set
abbrev pub AreOf : List ℕ → List ℕ → Type 0
AreOf t points = (p : ℕ) → IsIn p points → IsIn p t

-- four independent points of the set
pub record AreAnchors (t : List ℕ) (four : List ℕ) : Type 0 where
  pub a : ℕ
  pub b : ℕ
  pub c : ℕ
  pub d : ℕ
  pub are : four ≡ a ∷ b ∷ c ∷ d ∷ []
  pub independent : is_flat a b c d ≡ false
  pub of_set : AreOf t four

-- The fold stands for the set t, which edits made of s.
pub record StandsFor (s t : List ℕ) (fold : Fold) : Type 0 where
  pub changes : AreChanges s t fold.changes
  pub anchors : IfSome fold.anchors (AreAnchors t)
