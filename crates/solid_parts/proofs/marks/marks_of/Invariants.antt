-- the marks of the cells before the place
use Rattle.std.proofs.Common.{◌≡◌, map, take}
use Rattle.alpha_complex.specs.Judged.{is_small_cell}
use Rattle.solid_parts.proofs.marks.marks_of.Given as goal

abbrev pub invariant-loop-cell : goal.invariant-loop-cell
invariant-loop-cell l = l.marks.items ≡ map (is_small_cell l.alpha) (take l.cell-index l.cells)
