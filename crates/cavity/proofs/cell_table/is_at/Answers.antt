use Rattle.cavity.proofs.Tables.{at_past, at_same}
use Rattle.cavity.proofs.cell_table.is_at.Goals as goal

pub returns-in-Some : goal.returns-in-Some
returns-in-Some c =
    at_same c.args.cells.now c.args.i c.in-Some.other.now c.cell.result.now c.args.cell.now c.is_same.result
    c.in-Some.ensures.lookup.3.0 c.in-Some.ensures.lookup.1 c.cell.ensures c.is_same.ensures

pub returns-in-None : goal.returns-in-None
returns-in-None c = at_past c.args.cells.now c.args.i c.args.cell.now c.in-None.ensures.lookup.3
