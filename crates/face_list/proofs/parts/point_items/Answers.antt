use Rattle.std.proofs.Common.{subst, sym, take, arith}
use Rattle.std.proofs.lemmas.List.{take_more, take_all}
use Rattle.point_order.specs.Facets.{points_of}
use Rattle.point_order.specs.Sets.{IsAscending}
use Rattle.face_list.proofs.FaceLists.{items_next, ascending_more}
use Rattle.face_list.proofs.parts.point_items.Goals as goal

pub loop-number-preserved : goal.loop-number-preserved
loop-number-preserved c =
    let cells = c.args.cells.now in
    let n = c.loop-number.number in
    let item = c.index-cells-number.result in
    let t = take_more cells n item c.loop-number-test.true in
    record {
      items = items_next points_of cells n item item _ _ _ c.loop-number-test.true c.loop-number.invariant.items
          (sym c.index-cells-number.is) c.points.ensures.points c.in_ok-put.ensures;
      ascending = rw (t, ← c.index-cells-number.is)
          (ascending_more (take n cells) item c.loop-number.invariant.ascending
          (subst IsAscending c.points.ensures.points c.points.ensures.ascending));
    }

pub returns-clause-ascending : goal.returns-clause-ascending
returns-clause-ascending c = rw (take_all c.loop-number.number c.args.cells.now (omega arith)) at
    c.loop-number.invariant.ascending
