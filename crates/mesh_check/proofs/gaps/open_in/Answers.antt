use Rattle.std.proofs.Common.{subst, sym, List}
use Rattle.mesh_check.specs.declared.gaps.Side.{Side}
use Rattle.mesh_check.specs.Flaws.{as_cells}
use Rattle.mesh_check.specs.Sides.{AreSidesIn}
use Rattle.mesh_check.proofs.Sorting.{same_sides}
use Rattle.mesh_check.proofs.gaps.open_in.Goals as goal

pub returns : goal.returns
returns c =
    let l = as_cells c.args.cells.now c.args.hull.now in
    c.first_open.ensures c.args.part l
    (subst (λ (v : List Side). AreSidesIn c.args.part l v) (sym c.deref.ensures.value)
    (same_sides c.args.part l c.in_ok-all_sides.field-0.items c.in_order-sides.result.items
    c.in_ok-all_sides.ensures c.in_order-sides.ensures.same))
