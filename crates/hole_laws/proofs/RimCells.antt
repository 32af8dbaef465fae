-- Each rim facet has one cell that goes, and its own new cell.
use Rattle.std.specs.Prelude.{◌≡◌, ℕ, List, ◌∷◌, ◌⊎◌}
use Rattle.std.proofs.Common.{sym, ap, ◌∙◌, subst, inl, inr}
use Rattle.list_laws.proofs.Cited.{same_members}
use Rattle.point_order.specs.Sets.{IsIn, IsAscending, with_point, ascending}
use Rattle.point_order.specs.Complex.{complex}
use Rattle.point_order.specs.declared.cell.Cell.{Cell}
use Rattle.point_order.specs.declared.cell.Facet.{Facet}
use Rattle.point_order.specs.declared.cell.Facet.TheVariants.{Three, Two}
use Rattle.point_order.proofs.Cited.{in_ascending, in_ascending_from}
use Rattle.del_laws.specs.Cells.{point}
use Rattle.del_laws.proofs.Cited.{listed_facets, not_both_kinds, same_full, same_open}
use Rattle.hole_laws.specs.Lists.{cell_over}
use Rattle.hole_laws.specs.Edits.{IsSolidSet, IsNew, IsRimOf}
use Rattle.hole_laws.specs.Laws.{OneGoneEach, OneFreshEach}
use Rattle.hole_laws.proofs.Vertex.{IsOrdered, IsFacetVertex}
use Rattle.hole_laws.proofs.FacetVertices.{IsOrderedFacet, against_of}
use Rattle.hole_laws.proofs.Near.{facet_inside}
use Rattle.hole_laws.proofs.OfSets.{lists_of}
use Rattle.hole_laws.proofs.Laws.{old_lack_point}

-- lists that are one when p is put in, and do not have p, are one
same_rest : (t u : List ℕ) (p : ℕ) → IsAscending t → IsAscending u → ¬ (IsIn p t) → ¬ (IsIn p u) →
    ascending (p ∷ t) ≡ ascending (p ∷ u) → t ≡ u
same_rest t u p a b n k e = same_members t u a b (into t u n e) (into u t k (sym e))
  where
    into : (t u : List ℕ) → ¬ (IsIn p t) → ascending (p ∷ t) ≡ ascending (p ∷ u) → (q : ℕ) → IsIn q t → IsIn q u
    into t u n e q m =
        elim (in_ascending (p ∷ u) q (subst (λ (v : List ℕ). IsIn q v) e (in_ascending_from (p ∷ t) q (inr m)))) [
          | inl x ↦ absurd (n (subst (λ (v : ℕ). IsIn v t) (sym x) m))
          | inr r ↦ r
        ]

-- so is a facet told by its cell with p
same_under : (f g : Facet) (p : ℕ) → IsOrderedFacet f → IsOrderedFacet g → ¬ (IsFacetVertex f (point p)) →
    ¬ (IsFacetVertex g (point p)) → cell_over f p ≡ cell_over g p → f ≡ g
same_under (Three t) (Three u) p a b n k e =
    ap Three (same_rest t u p a b n k (same_full (ascending (p ∷ t)) (ascending (p ∷ u)) e))
same_under (Two t) (Two u) p a b n k e =
    ap Two (same_rest t u p a b n k (same_open (ascending (p ∷ t)) (ascending (p ∷ u)) e))
same_under (Three t) (Two u) p a b n k e = absurd (not_both_kinds (ascending (p ∷ t)) (ascending (p ∷ u)) e)
same_under (Two t) (Three u) p a b n k e = absurd (not_both_kinds (ascending (p ∷ u)) (ascending (p ∷ t)) (sym e))

-- a rim facet is in order and has not the new point
rim_plain : (s : List ℕ) (p : ℕ) (i : IsSolidSet s) (n : IsNew s p) (f : Facet) → IsRimOf s p f → IsOrderedFacet f
    × ¬ (IsFacetVertex f (point p))
rim_plain s p i n f r =
    let o : IsOrdered r.gone = (lists_of s i.set).ordered r.gone r.goes.before in (
      (against_of r.gone o f r.of_gone).against.ordered,
      λ m. old_lack_point s p i n r.gone r.goes.before
          (facet_inside r.gone o f r.of_gone p m),
    )

-- ---- the laws

-- two rim facets with one new cell are one
pub one_fresh_each : OneFreshEach
one_fresh_each s p i n f g r t e =
    let a = rim_plain s p i n f r in
    let b = rim_plain s p i n g t in
    same_under f g p a.0 b.0 a.1 b.1 e

-- two cells that go and have a rim facet in common are one
pub one_gone_each : OneGoneEach
one_gone_each s p i n f r a b ga gb ma mb =
    let o = listed_facets s r.kept f i.set.ascending i.set.keys r.stays.before r.of_kept in
    pick (o.only a ga.before ma) (o.only b gb.before mb) (λ x. ga.after
    (subst (λ (v : Cell). IsIn v (complex (with_point p s))) (sym x) r.stays.after))
    (λ x. gb.after (subst (λ (v : Cell). IsIn v (complex (with_point p s))) (sym x) r.stays.after))
  where
    pick : {c : Cell} → (a ≡ r.kept) ⊎ (a ≡ c) → (b ≡ r.kept) ⊎ (b ≡ c) → ¬ (a ≡ r.kept) → ¬ (b ≡ r.kept) → a ≡ b
    pick (inl x) y n m = absurd (n x)
    pick (inr x) (inl y) n m = absurd (m y)
    pick (inr x) (inr y) n m = x ∙ sym y
