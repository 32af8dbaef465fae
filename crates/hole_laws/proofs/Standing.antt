-- The cells and facets of a set.
use Rattle.std.specs.Prelude.{◌≡◌, ℕ, List, ◌⊎◌}
use Rattle.std.proofs.Common.{refl, sym, ◌∙◌, subst, inl, inr}
use Rattle.point_order.specs.declared.cell.Cell.{Cell}
use Rattle.point_order.specs.declared.cell.Cell.TheVariants.{Open}
use Rattle.point_order.specs.declared.cell.Facet.{Facet}
use Rattle.point_order.specs.declared.cell.Facet.TheVariants.{Three, Two}
use Rattle.point_order.specs.Complex.{complex}
use Rattle.point_order.specs.Facets.{facets_of, points_of, points_on}
use Rattle.point_order.specs.Sets.{IsIn}
use Rattle.del_laws.proofs.Cited.{listed_facets, listed_is_cell}
use Rattle.hole_laws.specs.Edits.{IsSet}
use Rattle.hole_laws.proofs.Near.{facet_inside, facet_point}
use Rattle.hole_laws.proofs.OfSets.{lists_of}

-- a facet of a cell is on two cells: a third is one of them
pub one_of_two : (s : List ℕ) → IsSet s → (f : Facet) (c other q : Cell) → IsIn c (complex s) → IsIn f (facets_of c) →
    IsIn other (complex s) → IsIn f (facets_of other) → ¬ (other ≡ c) → IsIn q (complex s) → IsIn f (facets_of q) →
    (c ≡ q) ⊎ (other ≡ q)
one_of_two s i f c other q m n k l differs a b =
    let o = listed_facets s c f i.ascending i.keys m n in
    pick (o.only other k l) (o.only q a b)
  where
    pick : {x : Cell} → (other ≡ c) ⊎ (other ≡ x) → (q ≡ c) ⊎ (q ≡ x) → (c ≡ q) ⊎ (other ≡ q)
    pick (inl e) r = absurd (differs e)
    pick (inr e) (inl r) = inl (sym r)
    pick (inr e) (inr r) = inr (e ∙ sym r)

-- a point of a facet of a listed cell is one of the cell's
pub on_cell : (s : List ℕ) → IsSet s → (q : Cell) → IsIn q (complex s) → (f : Facet) → IsIn f (facets_of q) → (e : ℕ) →
    IsIn e (points_on f) → IsIn e (points_of q)
on_cell s i q m (Three t) n e k = facet_inside q ((lists_of s i).ordered q m) (Three t) n e k
on_cell s i q m (Two t) n e k = facet_inside q ((lists_of s i).ordered q m) (Two t) n e k

-- and there is one
pub some_on : (s : List ℕ) → IsSet s → (q : Cell) → IsIn q (complex s) → (f : Facet) → IsIn f (facets_of q) →
    (e : ℕ) × IsIn e (points_on f)
some_on s i q m (Three t) n = let r = facet_point q ((lists_of s i).ordered q m) (Three t) n in (r.0, r.1)
some_on s i q m (Two t) n = let r = facet_point q ((lists_of s i).ordered q m) (Two t) n in (r.0, r.1)

-- an Open cell has its triple for a facet
pub triple_on : (s : List ℕ) → IsSet s → (t : List ℕ) → IsIn (Open t) (complex s) → IsIn (Three t) (facets_of (Open t))
triple_on s i t m =
    let r = listed_is_cell s (Open t) i.ascending m in
    subst (λ (v : List ℕ). IsIn (Three v) (facets_of (Open v))) (sym r.is) (inr (inr (inr (inl refl))))
