use Rattle.std.proofs.Common.{◌≡◌, false}
use Rattle.point_order.specs.Sets.{without_point}
use Rattle.point_order.specs.Solid.{is_solid}
use Rattle.edit_history.proofs.Cited.{ok_then}
use Rattle.star_refill.specs.Coming.{HaveAllAcross}
use Rattle.cell_changes.specs.Changes.{IsRefilled}
use Rattle.linked_mesh.proofs.Taken.{all_across, around_all, around_star, known_all}
use Rattle.linked_mesh.proofs.take.coming.Goals as goal

pub cells_for_star-requires-clause-around : goal.cells_for_star-requires-clause-around
cells_for_star-requires-clause-around c =
    let r = c.requires in (
      r.0,
      rw (c.cells.ensures, c.cells-2.ensures)
          (around_star r.0 c.args.v c.args.linked.now.cells c.args.star.now r.1),
    )

pub returns-in-Some : goal.returns-in-Some
returns-in-Some c s o =
    let f = rw (c.in-Some.is, c.cells.ensures, c.cells-2.ensures) at c.in_ok-cells.ensures in
    f s (around_star s c.args.v c.args.linked.now.cells c.args.star.now o)

pub cells_for_star-requires-2-clause-around : goal.cells_for_star-requires-2-clause-around
cells_for_star-requires-2-clause-around c =
    let r = c.requires in (
      r.0,
      rw (c.cells-3.ensures, c.deref.ensures.value)
          (around_all r.0 c.args.v c.args.linked.now.cells c.args.star.now r.1 c.in_ok-around.around.items
          (c.in_ok-around.ensures r.0 r.1.cells_of)),
    )

pub returns : goal.returns
returns c =
    let around = c.in_ok-around.around.items in
    let f = rw (c.cells-3.ensures, c.deref.ensures.value) at c.cells_for_star-2.ensures in
    ok_then _ _ c.cells_for_star-2.result (λ found g s o.
    (let b = c.in_ok-around.ensures s o.cells_of in
    known_all found (HaveAllAcross s c.args.v around) (is_solid (without_point c.args.v s) ≡ false)
    (λ cells. IsRefilled s c.args.v c.args.star.now cells.items)
    (all_across s c.args.v c.args.linked.now.cells c.args.star.now o around b)
    (g s (around_all s c.args.v c.args.linked.now.cells c.args.star.now o around b)))) f
