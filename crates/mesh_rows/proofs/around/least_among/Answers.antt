use Rattle.mesh_rows.proofs.LeastsAround.{some_step}
use Rattle.mesh_rows.proofs.around.least_among.Goals as goal

pub loop-number-preserved : goal.loop-number-preserved
loop-number-preserved c =
    some_step c.args.cells.now c.args.around.now c.loop-number.number-index _ c.loop-number.least c.alpha_of.result _
    c.loop-number-test.true c.requires c.alpha_of.ensures c.min-least.ensures c.loop-number.invariant
