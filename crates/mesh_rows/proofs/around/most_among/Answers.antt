use Rattle.mesh_rows.proofs.LeastsAround.{each_step}
use Rattle.mesh_rows.proofs.around.most_among.Goals as goal

pub loop-number-preserved : goal.loop-number-preserved
loop-number-preserved c =
    each_step c.args.cells.now c.args.around.now c.loop-number.number-index _ c.loop-number.most c.alpha_of.result _
    c.loop-number-test.true c.requires c.alpha_of.ensures c.greater-most.ensures c.loop-number.invariant
