use Rattle.std.proofs.Common.{◌≡◌, drop, take}
use Rattle.std.specs.List.{AllZip}
use Rattle.mesh_handle.specs.Handles.{NearestIs}
use Rattle.mesh_handle.proofs.many.nearest_to_many.Given as goal

-- the nearest points to the places of the front were found, the room behind is as before, and so is the mesh
abbrev pub invariant-loop-done : goal.invariant-loop-done
invariant-loop-done l = record {
  found : AllZip (NearestIs l.fn.handle.mesh) (take l.done l.places) (take l.done l.nearest);
  behind : drop l.done l.nearest ≡ drop l.done l.fn.nearest;
  same : l.handle.mesh ≡ l.fn.handle.mesh;
}
