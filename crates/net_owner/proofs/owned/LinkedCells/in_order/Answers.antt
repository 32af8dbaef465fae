use Rattle.std.proofs.Common.{sym, subst, List}
use Rattle.point_order.specs.declared.cell.Cell.{Cell}
use Rattle.point_order.specs.CellOrder.{AreSameCells}
use Rattle.cell_slots.specs.Clouds.{AreCellsOf}
use Rattle.net_digs.specs.Linked.{LinkedView}
use Rattle.cell_slots.specs.Nets.{cells_of_slots}
use Rattle.net_digs.proofs.Cited.{sorted_all}
use Rattle.net_owner.proofs.owned.LinkedCells.in_order.Goals as goal

pub returns : goal.returns
returns c s a k =
    sorted_all s (cells_of_slots c.self.inside.net) c.cells_in_order.result.items a
    (subst (λ (v : LinkedView). AreCellsOf s v.cells) (sym c.self.view_is) k) c.cells_in_order.ensures.order
    (subst (λ (l : List Cell). AreSameCells l c.cells_in_order.result.items) c.in_ok-cells.ensures
    c.cells_in_order.ensures.cells)
