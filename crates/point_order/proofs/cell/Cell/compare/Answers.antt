use Rattle.std.proofs.Common.{◌∙◌, sym}
use Rattle.point_order.proofs.CellOrderLaws.{cmp_is}
use Rattle.point_order.proofs.cell.Cell.compare.Goals as goal

pub returns : goal.returns
returns c = c.cmp.ensures ∙ sym (cmp_is c.args.self.now c.args.other.now)
