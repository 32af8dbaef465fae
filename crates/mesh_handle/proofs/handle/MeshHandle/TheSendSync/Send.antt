-- A handle may go to another thread: its mesh may, and the right to free it.
use Rattle.std.specs.Prelude.{Option, None, Some}
use mir.Raw.{raw}
use base.Fraction.{full_share}
use base.Shift.{Keyless}
use denote.Memory.{lone}
use denote.RawPtr.{Ptr, block_ptr, null_ptr, lies_at}
use denote.Param.Send.{IsSend, owning_send, part_keyless, sendable}
use Rattle.std.proofs.Crossing.{frees}
use Rattle.linked_mesh.proofs.mesh.LinkedMesh.TheSendSync.{the_send as mesh_sends}
use Rattle.mesh_handle.specs.Held.{MeshView, keeps, mesh_row}
use Rattle.mesh_handle.specs.contracts.handle.MeshHandle.{the_row, the_type}

-- what lies at a pointer names no thread
lies : (p : Ptr) (mesh : MeshView) → Keyless (lies_at mesh_row full_share p mesh)
lies (block_ptr b o) mesh = part_keyless mesh_row mesh_sends full_share mesh b o
lies null_ptr mesh = tt

-- nor does what a handle keeps
kept : (p : Ptr) (mesh : Option MeshView) → Keyless (keeps p mesh)
kept p None = tt
kept p (Some mesh) = λ heap. (lies p mesh, frees.frees heap (raw (lone mesh_row.mir)) p)

-- so a handle may go to another thread
pub send : IsSend the_row
send = owning_send the_type (search sendable, tt) (λ d. kept d.at d.mesh) (λ k x w. tt)
