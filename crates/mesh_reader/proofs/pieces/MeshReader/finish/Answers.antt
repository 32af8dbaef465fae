use Rattle.std.proofs.Common.{sym, ◌∙◌}
use Rattle.mesh_reader.proofs.Judged.{given_mesh, given_mesh_fault}
use Rattle.mesh_reader.proofs.Order.{given_order}
use Rattle.mesh_reader.proofs.Pieced.{last_given, none_given}
use Rattle.mesh_reader.proofs.pieces.MeshReader.finish.Goals as goal

pub returns-then-is_empty-clause-accepted : goal.returns-then-is_empty-clause-accepted
returns-then-is_empty-clause-accepted c =
    rw (← c.self.view_is) (given_mesh c.self.inside.taken.bytes c.finish.result
    (none_given c.self.inside.state c.self.inside.begun c.self.inside.taken.bytes c.self.invariant
    (sym c.is_empty.ensures ∙ c.if-is_empty.true) c.finish.result c.finish.ensures))

pub returns-then-is_empty-clause-order : goal.returns-then-is_empty-clause-order
returns-then-is_empty-clause-order c =
    given_order c.args.self c.finish.result (returns-then-is_empty-clause-accepted c)

pub returns-then-is_empty-clause-fault : goal.returns-then-is_empty-clause-fault
returns-then-is_empty-clause-fault c = λ fault e.
    rw (← c.self.view_is) (given_mesh_fault c.self.inside.taken.bytes c.finish.result fault
    (none_given c.self.inside.state c.self.inside.begun c.self.inside.taken.bytes c.self.invariant
    (sym c.is_empty.ensures ∙ c.if-is_empty.true) c.finish.result c.finish.ensures) e)

pub returns-in-Ok-clause-accepted : goal.returns-in-Ok-clause-accepted
returns-in-Ok-clause-accepted c =
    rw (← c.self.view_is) (given_mesh c.self.inside.taken.bytes c.finish-in-Ok.result
    (last_given c.self.inside.state c.self.inside.begun c.self.inside.taken.bytes c.self.invariant
    (sym c.is_empty.ensures ∙ c.if-is_empty.false) c.deref.result.now c.deref.ensures.value c.in-Ok.ended
    c.in-Ok.ensures c.finish-in-Ok.result c.finish-in-Ok.ensures))

pub returns-in-Ok-clause-order : goal.returns-in-Ok-clause-order
returns-in-Ok-clause-order c =
    given_order c.args.self c.finish-in-Ok.result (returns-in-Ok-clause-accepted c)

pub returns-in-Ok-clause-fault : goal.returns-in-Ok-clause-fault
returns-in-Ok-clause-fault c = λ fault e.
    rw (← c.self.view_is) (given_mesh_fault c.self.inside.taken.bytes c.finish-in-Ok.result fault
    (last_given c.self.inside.state c.self.inside.begun c.self.inside.taken.bytes c.self.invariant
    (sym c.is_empty.ensures ∙ c.if-is_empty.false) c.deref.result.now c.deref.ensures.value c.in-Ok.ended
    c.in-Ok.ensures c.finish-in-Ok.result c.finish-in-Ok.ensures) e)
