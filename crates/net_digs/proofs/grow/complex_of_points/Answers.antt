use Rattle.cell_slots.specs.Nets.{cells_of_slots}
use Rattle.net_digs.proofs.Growing.{sorted_all}
use Rattle.net_digs.proofs.Ranking.{same_on}
use Rattle.net_digs.proofs.grow.complex_of_points.Goals as goal

pub returns : goal.returns
returns c =
    let old = cells_of_slots c.in_ok-net.net in
    let out = c.cells_in_order.result.items in
    sorted_all c.args.points.now old out c.requires.ascending c.in_ok-net.ensures c.cells_in_order.ensures.order
    (same_on old c.in_ok-cells.cells.items out c.in_ok-cells.ensures c.cells_in_order.ensures.cells)
