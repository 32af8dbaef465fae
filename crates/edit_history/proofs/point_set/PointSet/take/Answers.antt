use Rattle.edit_history.proofs.SetEdits.{ascending_removed}
use Rattle.edit_history.proofs.point_set.PointSet.take.Goals as goal

pub invariant_of-self : goal.invariant_of-self
invariant_of-self c =
    rw c.remove.ensures.items
    (ascending_removed c.self.inside.points.items c.deref.result.now c.args.p c.in-Ok.i c.deref.ensures.value
    c.in-Ok.ensures.found.1 c.self.invariant)
