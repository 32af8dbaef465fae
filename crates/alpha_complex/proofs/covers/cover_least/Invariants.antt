-- the least number so far, and the cells that are left
use Rattle.face_list.specs.Tables.{cell_at}
use Rattle.alpha_complex.specs.Judged.{covers, admitted_triples}
use Rattle.alpha_complex.proofs.Leasts.{AnyLeft}
use Rattle.alpha_complex.proofs.covers.cover_least.Given as goal

abbrev pub invariant-loop-number : goal.invariant-loop-number
invariant-loop-number l =
    AnyLeft (λ a. covers (admitted_triples a l.higher.faces.now.triples) l.pair) (cell_at l.higher.faces.now.cells)
    l.around l.number-index l.least
