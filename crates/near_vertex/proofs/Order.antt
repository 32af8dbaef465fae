-- The order of points by distance and key.
use Rattle.std.specs.Prelude.{◌≡◌, ℕ, true, List, [], ◌∷◌}
use Rattle.std.proofs.Common.{inl, inr, subst}
use Rattle.list_laws.proofs.Cited.{not_both}
use Rattle.point_order.specs.Sets.{IsIn}
use Rattle.del_laws.specs.Nearest.{comes_before}
use Rattle.nearest_points.proofs.Cited.{before_chain, before_self}
use Rattle.near_vertex.specs.Laws.{Approaches, NoPointTwice}

-- ---- no point twice

-- what comes later on a walk comes before
later_before : (q p x : ℕ) (l : List ℕ) → Approaches q (p ∷ l) → IsIn x l → comes_before q x p ≡ true
later_before q p x [] c m = absurd m
later_before q p x (y ∷ l) c m = elim m [
  | inl e ↦ subst (λ v. comes_before q v p ≡ true) e c.0
  | inr r ↦ before_chain q x y p (later_before q y x l c.1 r) c.0
]

-- the law NoPointTwice
pub no_point_twice : NoPointTwice
no_point_twice q [] c = tt
no_point_twice q (p ∷ []) c = ((λ m. m), tt)
no_point_twice q (p ∷ x ∷ l) c = (
  (λ m. not_both (comes_before q p p) (later_before q p p (x ∷ l) c m)
      (before_self q p)),
  no_point_twice q (x ∷ l) c.1,
)
