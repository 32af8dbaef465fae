use Rattle.cell_stars.proofs.PartLaws.{part_next}
use Rattle.cell_stars.proofs.keys.part_after.Goals as goal

pub loop-change-preserved : goal.loop-change-preserved
loop-change-preserved c =
    part_next c.args.changes.now c.args.base.now c.loop-change.change-index c.args.number c.change-item.result
    c.loop-change.part.now c.newer-part.result.now c.loop-change-test.true c.requires c.change-item.is
    c.loop-change.invariant c.newer-part.ensures.same c.newer-part.ensures.other
