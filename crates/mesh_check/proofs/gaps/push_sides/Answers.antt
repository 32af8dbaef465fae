use Rattle.std.proofs.Common.{◌≡◌, ◌∙◌, ◌++◌, ap, get_or, length, rules, List}
use Rattle.std.specs.Prelude.{OnOk, Result, Ok, Err}
use Rattle.std.specs.List.{flat_map}
use Rattle.point_order.specs.declared.cell.Facet.{Facet}
use Rattle.mesh_check.specs.declared.gaps.Side.{Side}
use Rattle.mesh_check.specs.Sides.{side_of}
use Rattle.mesh_check.proofs.Sorting.{four_sides}
use Rattle.mesh_check.proofs.gaps.push_sides.Goals as goal

-- what follows of an answer that is no error
on_ok : {T E P Q : Type 0} (r : Result T E) → (P → Q) → OnOk r P → OnOk r Q
on_ok (Ok v) f p = f p
on_ok (Err e) f p = tt

-- the facets of the cell, each with the cell, are put behind the others
pub returns : goal.returns
returns c =
    let side : Facet → List Side = λ f. side_of c.args.part f c.args.cell in
    let facets = c.facets.result in
    let four : length facets ≡ 4 = search rules in
    let old = c.args.sides.now.items in
    let first = c.in_ok-push_side.ensures in
    let second = c.in_ok-push_side-2.ensures
    ∙ ap (λ (v : List Side). v ++ side (get_or facets 1 c.index-facets-1.result)) first in
    let third = c.in_ok-push_side-3.ensures
    ∙ ap (λ (v : List Side). v ++ side (get_or facets 2 c.index-facets-2.result)) second in
    on_ok c.push_side-4.result (λ e. e
    ∙ ap (λ (v : List Side). v ++ side (get_or facets 3 c.index-facets-3.result)) third
    ∙ four_sides side facets c.index-facets-0.result c.index-facets-1.result c.index-facets-2.result
    c.index-facets-3.result old four
    ∙ ap (λ (v : List Facet). old ++ flat_map side v) c.facets.ensures) c.push_side-4.ensures
