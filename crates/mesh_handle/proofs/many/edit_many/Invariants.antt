use Rattle.std.proofs.Common.{◌≡◌, drop, take}
use Rattle.mesh_handle.specs.Many.{WereMade}
use Rattle.mesh_handle.proofs.many.edit_many.Given as goal

-- the edits of the front were made, and the room behind is as before
abbrev pub invariant-loop-done : goal.invariant-loop-done
invariant-loop-done l = record {
  made : WereMade l.fn.handle.mesh (take l.done l.edits) l.handle.mesh (take l.done l.replies);
  behind : drop l.done l.replies ≡ drop l.done l.fn.replies;
}
