use Rattle.face_list.specs.Tables.{cell_at}
use Rattle.alpha_complex.specs.Judged.{is_small_cell}
use Rattle.alpha_complex.proofs.Leasts.{any_step}
use Rattle.alpha_complex.proofs.rounds.some_least.Goals as goal

pub loop-number-preserved : goal.loop-number-preserved
loop-number-preserved c =
    any_step is_small_cell (cell_at c.args.faces.now.cells) c.args.around.now c.loop-number.number-index _
    c.loop-number.least c.least_at.result _ c.loop-number-test.true c.least_at.ensures c.min-least.ensures
    c.loop-number.invariant
