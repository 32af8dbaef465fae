use Rattle.linked_mesh.proofs.Keys.{AreFirst}
use Rattle.linked_mesh.proofs.set.set_of.Given as goal

abbrev pub invariant-loop-p : goal.invariant-loop-p
invariant-loop-p l = AreFirst l.points l.p-index l.set.keys
