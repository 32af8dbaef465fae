-- The points of a cell of four keys, and the nearest point of a set.
use Rattle.std.specs.Prelude.{◌≡◌, ◌↔◌, ◌∷◌, ◌++◌, ◌⊎◌, [], ℕ, List, false}
use Rattle.std.proofs.Common.{inl, inr, subst}
use Rattle.list_laws.proofs.Cited.{false_if, in_snoc, not_both}
use Rattle.point_order.specs.declared.cell.Cell.{Cell}
use Rattle.point_order.specs.declared.cell.Facet.{Facet}
use Rattle.point_order.specs.Facets.{facets_of, points_of, points_on}
use Rattle.point_order.specs.Sets.{IsIn}
use Rattle.del_laws.specs.Nearest.{comes_before}
use Rattle.del_laws.proofs.Cited.{listed_inside, listed_is_cell}
use Rattle.del_laws.proofs.NearestPoints.{nearest_by_cells}
use Rattle.hole_laws.specs.Others.{IsOtherOf}
use Rattle.hole_laws.specs.Stars.{IsCellAt}
use Rattle.hole_laws.proofs.Cited.{on_cell}
use Rattle.cell_slots.specs.Clouds.{AreCellsOf}
use Rattle.net_owner.specs.Nearest.{AreLookedAt, HasNoneBefore}

-- ---- the points of a cell

-- the points of the cells of a set are its points
pub point_of_cell : (s : List ℕ) (cells : List Cell) → AreCellsOf s cells → (c : Cell) → IsIn c cells → (x : ℕ) →
    IsIn x (points_of c) → IsIn x s
point_of_cell s cells k c i x m =
    listed_inside s c (listed_is_cell s c k.solid.set.ascending ((k.members c).0 i)) x m

-- ---- cells that are looked at

-- one alone
pub looked_first : (q p : ℕ) (l : List Cell) (c : Cell) → IsIn c l → HasNoneBefore q p c → AreLookedAt q p l (c ∷ [])
looked_first q p l c i n = record {
  among = λ d m. elim m [ inl e ↦ subst (λ (x : Cell). IsIn x l) e i | inr none ↦ absurd none ];
  first = λ d m. elim m [ inl e ↦ subst (λ (x : Cell). HasNoneBefore q p x) e n | inr none ↦ absurd none ];
}

-- one more, across a facet of one of them, where the point beyond the facet does not come before
pub looked_more : (s : List ℕ) (q p : ℕ) (l found : List Cell) (here other : Cell) (f : Facet) → AreCellsOf s l →
    AreLookedAt q p l found → IsIn here found → IsIn f (facets_of here) → IsOtherOf l here f other →
    ((y : ℕ) → IsIn y (points_of other) → IsIn y (points_on f) ⊎ (comes_before q y p ≡ false)) →
    AreLookedAt q p l (found ++ other ∷ [])
looked_more s q p l found here other f k a i m o beyond = record {
  among = λ d j. elim (in_snoc found other d j) [
    | inl n ↦ a.among d n
    | inr e ↦ subst (λ (x : Cell). IsIn x l) e o.listed
  ];
  first = λ d j. elim (in_snoc found other d j) [
    | inl n ↦ a.first d n
    | inr e ↦ subst (λ (x : Cell). HasNoneBefore q p x) e none
  ];
}
  where
    -- the points of the facet are points of the one that was found
    none : HasNoneBefore q p other
    none y n = elim (beyond y n) [
      | inl on ↦ a.first here i y (on_cell s k.solid.set here ((k.members here).0 (a.among here i)) f m y on)
      | inr g ↦ g
    ]

-- where these are all cells at the point, no point of the set comes before it
pub first_of_star : (s : List ℕ) (q p : ℕ) (l found : List Cell) → AreCellsOf s l → AreLookedAt q p l found →
    IsIn p s → ((c : Cell) → IsIn c found ↔ IsCellAt s p c) → (y : ℕ) → IsIn y s → comes_before q y p ≡ false
first_of_star s q p l found k a m all y i = false_if (comes_before q y p) (λ t. (
    let h = nearest_by_cells s q p y k.solid.set.ascending k.solid.set.keys k.solid.solid m i t in
    not_both (comes_before q h.other p) h.nearer (a.first h.cell
    ((all h.cell).1 (record { listed = h.listed; has = h.has })) h.other h.shares)))
