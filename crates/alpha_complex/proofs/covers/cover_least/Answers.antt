use Rattle.face_list.specs.Tables.{cell_at}
use Rattle.alpha_complex.specs.Judged.{covers, admitted_triples}
use Rattle.alpha_complex.proofs.Leasts.{any_step}
use Rattle.alpha_complex.proofs.covers.cover_least.Goals as goal

pub loop-number-preserved : goal.loop-number-preserved
loop-number-preserved c =
    any_step (λ a. covers (admitted_triples a c.args.higher.now.faces.now.triples) c.args.pair.now)
    (cell_at c.args.higher.now.faces.now.cells) c.args.around.now c.loop-number.number-index _ c.loop-number.least
    c.cell_cover_least.result _ c.loop-number-test.true c.cell_cover_least.ensures c.min-least.ensures
    c.loop-number.invariant
