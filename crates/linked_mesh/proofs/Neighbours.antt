-- The nearest point of a set, shown by the cells at a point.
use Rattle.std.specs.Prelude.{◌≡◌, ◌↔◌, refl, ℕ, List, [], ◌∷◌, false, true, Option, None, Some, MatchOption, slice_get}
use Rattle.std.specs.Prelude.{◌<◌, length}
use Rattle.std.proofs.Common.{ap, arith, inl, inr, subst, sym, ◌∙◌}
use Rattle.list_laws.proofs.Cited.{not_both, one_value}
use Rattle.point_order.specs.declared.cell.Cell.{Cell}
use Rattle.point_order.specs.Sets.{IsIn, is_among}
use Rattle.point_order.specs.Solid.{is_solid}
use Rattle.del_laws.specs.Nearest.{comes_before}
use Rattle.hole_laws.specs.Edits.{GoesFrom}
use Rattle.nearest_points.specs.Points.{IsFirstOf}
use Rattle.nearest_points.proofs.Cited.{before_self}

-- ---- the first of a list, and where a place lies

-- the first of a list is one of it
pub first_in : (l : List ℕ) (p : ℕ) → slice_get l 0 ≡ Some p → IsIn p l
first_in [] p e = absurd (cc e)
first_in (x ∷ l) p e = inl (cc e)

-- a point of the set, or a cell in conflict
pub located : (o : Option Cell) (s t : List ℕ) (p : ℕ) → s ≡ t →
    MatchOption o (is_among p s ≡ true) (λ cell. (is_among p s ≡ false) × GoesFrom s p cell) →
    ((o ≡ None) ↔ (is_among p t ≡ true)) × ((cell : Cell) → o ≡ Some cell → GoesFrom t p cell)
located None s t p e k = (
  (λ _. ap (is_among p) (sym e) ∙ k, λ _. refl),
  λ cell f. absurd (cc f),
)
located (Some c) s t p e k = (
  (λ f. absurd (cc f), λ f. absurd (not_both (is_among p t) f (ap (is_among p) (sym e) ∙ k.0))),
  λ cell f. subst (λ (l : List ℕ). GoesFrom l p cell) e (subst (λ (q : Cell). GoesFrom s p q) (one_value c cell f) k.1),
)

-- it is one of it, where it is that or one of it
pub among_two : (l : List ℕ) (p x : ℕ) → IsIn p l → IsIn x (p ∷ l) → IsIn x l
among_two l p x m (inl e) = subst (λ v. IsIn v l) e m
among_two l p x m (inr i) = i

-- of one point it is the first
pub first_alone : (q p : ℕ) → IsFirstOf q (p ∷ []) p
first_alone q p = record {
  among = inl refl;
  first = λ y i. elim i [
    | inl e ↦ subst (λ v. comes_before q v p ≡ false) e (before_self q p)
    | inr none ↦ absurd none
  ];
}

-- no solid list is empty
pub none_solid : (l : List ℕ) → is_solid l ≡ true → ¬ (0 < length l) → ⊥
none_solid [] e n = absurd (cc e)
none_solid (x ∷ l) e n = n (omega arith)
