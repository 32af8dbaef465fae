-- the least number so far, and the cells that are left
use Rattle.face_list.specs.Tables.{cell_at}
use Rattle.alpha_complex.specs.Judged.{is_small_cell}
use Rattle.alpha_complex.proofs.Leasts.{AnyLeft}
use Rattle.alpha_complex.proofs.rounds.some_least.Given as goal

abbrev pub invariant-loop-number : goal.invariant-loop-number
invariant-loop-number l = AnyLeft is_small_cell (cell_at l.faces.cells) l.around l.number-index l.least
