use Rattle.edit_history.proofs.Moving.{absent_removed}
use Rattle.edit_history.proofs.SetEdits.{ascending_removed}
use Rattle.edit_history.proofs.point_set.exchange.Goals as goal

pub put_in-requires-clause-order : goal.put_in-requires-clause-order
put_in-requires-clause-order c =
    rw c.remove.ensures.items
    (ascending_removed c.args.points.now.items c.deref.result.now c.args.a c.in-Ok.i c.deref.ensures.value
    c.in-Ok.ensures.found.1 c.requires.order)

pub put_in-requires-clause-absent : goal.put_in-requires-clause-absent
put_in-requires-clause-absent c =
    rw c.remove.ensures.items
    (absent_removed c.args.a c.args.b c.in-Ok.i c.args.points.now.items c.deref.result.now c.deref.ensures.value
    c.in-Ok.ensures.found.1 c.requires.absent)
