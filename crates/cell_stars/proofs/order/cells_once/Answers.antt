use Rattle.cell_stars.proofs.Orders.{sorted_differ}
use Rattle.cell_stars.proofs.order.cells_once.Goals as goal

pub returns-clause-once : goal.returns-clause-once
returns-clause-once c = sorted_differ c.cells_in_order.result.items c.cells_in_order.ensures.order
