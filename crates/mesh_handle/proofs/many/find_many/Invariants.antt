use Rattle.std.proofs.Common.{◌≡◌, drop, take}
use Rattle.std.specs.List.{AllZip}
use Rattle.mesh_handle.specs.Handles.{LiesAt}
use Rattle.mesh_handle.proofs.many.find_many.Given as goal

-- the places of the front were located, the room behind is as before, and so is the mesh
abbrev pub invariant-loop-done : goal.invariant-loop-done
invariant-loop-done l = record {
  found : AllZip (LiesAt l.fn.handle.mesh) (take l.done l.places) (take l.done l.located);
  behind : drop l.done l.located ≡ drop l.done l.fn.located;
  same : l.handle.mesh ≡ l.fn.handle.mesh;
}
