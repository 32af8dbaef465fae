use Rattle.cell_store.proofs.Gathering.{complex_gathered}
use Rattle.cell_store.proofs.hold.Hold.complex.Goals as goal

pub returns : goal.returns
returns c s sh =
    complex_gathered c.args.self.now s c.in_ok-cells.cells.items c.cells_in_order.result.items
    c.in_ok-cells.ensures.whole sh c.in_ok-cells.ensures.list c.cells_in_order.ensures.order
    c.cells_in_order.ensures.cells
