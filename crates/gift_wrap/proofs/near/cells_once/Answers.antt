use Rattle.gift_wrap.proofs.DistinctCells.{sorted_once}
use Rattle.gift_wrap.proofs.near.cells_once.Goals as goal

pub returns-else-len-le-USUAL-clause-once : goal.returns-else-len-le-USUAL-clause-once
returns-else-len-le-USUAL-clause-once c = sorted_once c.cells_in_order.result.items c.cells_in_order.ensures.order
