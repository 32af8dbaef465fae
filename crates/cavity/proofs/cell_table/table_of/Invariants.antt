use Rattle.std.proofs.Common.{take}
use Rattle.cavity.specs.Tables.{IsMarked}
use Rattle.cavity.proofs.cell_table.table_of.Given as goal

abbrev pub invariant-loop-i : goal.invariant-loop-i
invariant-loop-i l = IsMarked l.mask l.marks.items (take l.i l.goes)
