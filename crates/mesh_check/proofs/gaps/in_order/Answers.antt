use Rattle.std.specs.Prelude.{◌≡◌, ◌+◌, ◌&&◌, slice_index_or}
use Rattle.std.specs.Ordering.{eq_by_cmp, is_eq, is_lt, ordering_then}
use Rattle.std.specs.declared.cmp.Ordering.{Ordering}
use Rattle.std.specs.declared.cmp.Ordering.TheVariants.{Less, Equal, Greater}
use Rattle.std.proofs.Common.{refl, sym, ◌∙◌, ap}
use Rattle.std.proofs.lemmas.List.Filters.{dedup_is}
use Rattle.std.proofs.lemmas.Map.Text.{is_eq-slice_cmp}
use Rattle.list_laws.proofs.Cited.{arranged_same, deduped_same, deduped_sorted}
use Rattle.point_order.specs.declared.cell.Cell.{Cell}
use Rattle.point_order.specs.declared.cell.Cell.TheVariants.{Full, Open}
use Rattle.point_order.specs.declared.cell.Facet.{Facet}
use Rattle.point_order.specs.declared.cell.Facet.TheVariants.{Three, Two}
use Rattle.point_order.specs.CellOrder.{cell_cmp}
use Rattle.point_order.specs.contracts.cell.CellPartialEq.TheImpl as cell_equality
use Rattle.point_order.specs.contracts.cell.FacetPartialEq.TheImpl as facet_equality
use Rattle.point_order.specs.contracts.cell.CellOrd.TheImpl as cell_by_order
use Rattle.point_order.specs.contracts.cell.FacetOrd.TheImpl as facet_by_order
use Rattle.mesh_check.specs.contracts.gaps.SidePartialEq.TheImpl as by_equality
use Rattle.mesh_check.specs.contracts.gaps.SideOrd.TheImpl as by_order
use Rattle.mesh_check.specs.declared.gaps.Side.{Side}
use Rattle.mesh_check.specs.Flaws.{facet_cmp}
use Rattle.mesh_check.specs.Sides.{side_cmp}
use Rattle.mesh_check.proofs.Sorting.{side_order, side_same}
use Rattle.mesh_check.proofs.gaps.in_order.Goals as goal

-- the derived order of cells
cell_is : (c d : Cell) → cell_cmp c d ≡ cell_by_order.ghosts.cmp c d
cell_is (Full q) (Full r) = refl
cell_is (Full q) (Open r) = refl
cell_is (Open q) (Full r) = refl
cell_is (Open q) (Open r) = refl

-- of facets
facet_is : (f g : Facet) → facet_cmp f g ≡ facet_by_order.ghosts.cmp f g
facet_is (Three t) (Three u) = refl
facet_is (Three t) (Two u) = refl
facet_is (Two t) (Three u) = refl
facet_is (Two t) (Two u) = refl

-- and of sides
cmp_is : (x y : Side) → side_cmp x y ≡ by_order.ghosts.cmp x y
cmp_is x y = rw (facet_is x.facet y.facet, cell_is x.cell y.cell) refl

-- the derived equality of cells
cell_eq : (x y : Cell) → cell_equality.ghosts.eq x y ≡ eq_by_cmp cell_cmp x y
cell_eq (Full q) (Full r) = sym (is_eq-slice_cmp q r)
cell_eq (Full q) (Open r) = refl
cell_eq (Open q) (Full r) = refl
cell_eq (Open q) (Open r) = sym (is_eq-slice_cmp q r)

-- of facets
facet_eq : (x y : Facet) → facet_equality.ghosts.eq x y ≡ eq_by_cmp facet_cmp x y
facet_eq (Three q) (Three r) = sym (is_eq-slice_cmp q r)
facet_eq (Three q) (Two r) = refl
facet_eq (Two q) (Three r) = refl
facet_eq (Two q) (Two r) = sym (is_eq-slice_cmp q r)

-- two answers
then_eq : (o r : Ordering) → (is_eq o && is_eq r) ≡ is_eq (ordering_then o r)
then_eq Less r = refl
then_eq Equal r = refl
then_eq Greater r = refl

-- and of sides
eq_is : (x y : Side) → by_equality.ghosts.eq x y ≡ eq_by_cmp side_cmp x y
eq_is x y = rw (facet_eq x.facet y.facet, cell_eq x.cell y.cell)
    (then_eq (facet_cmp x.facet y.facet) (cell_cmp x.cell y.cell))

pub returns-clause-order : goal.returns-clause-order
returns-clause-order c =
    let l = c.sort_unstable.new.self.items in
    deduped_sorted side_cmp side_order by_equality.ghosts.eq eq_is l c.dedup.new.self.items
    (λ k d a b. ap is_lt (cmp_is (slice_index_or l (k + 1) d) (slice_index_or l k d))
    ∙ c.sort_unstable.ensures.sorted k d a b) (dedup_is by_equality.ghosts.eq _ _ c.dedup.ensures.filtered)

pub returns-clause-same : goal.returns-clause-same
returns-clause-same c x =
    let s = c.sort_unstable.new.self.items in
    let same = arranged_same c.args.sides.items s c.sort_unstable.ensures.permutation in
    let from = deduped_same side_cmp side_order side_same by_equality.ghosts.eq eq_is s c.dedup.new.self.items
    (dedup_is by_equality.ghosts.eq _ _ c.dedup.ensures.filtered) in
    (λ i. (from x).1 ((same x).1 i), λ i. (same x).0 ((from x).0 i))
