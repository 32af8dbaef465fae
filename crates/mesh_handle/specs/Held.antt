-- What the pointer of a handle owns.
use Rattle.std.specs.Prelude.{List, Option, None, Some}
use base.Fml.{Fml, feq, fex}
use denote.RawPtr.{Ptr, null_ptr}
use Rattle.std.specs.declared.alloc.Global.{Global}
use Rattle.std.specs.contracts.impls.GlobalAllocator.TheImpl.{ghosts}
use Rattle.std.specs.Box.Ownership.{box_owns}
use Rattle.edit_history.specs.declared.history.Entry.{Entry}
pub use Rattle.linked_mesh.specs.contracts.mesh.LinkedMesh.{the_row as mesh_row}

-- what contracts see of a mesh: its history
abbrev pub MeshView : Type 0
MeshView = List Entry

-- nothing where there is no mesh, and then it is null; else the box of the mesh
abbrev pub keeps : Ptr → Option MeshView → Fml
keeps p None = feq Ptr p null_ptr
keeps p (Some mesh) = fex Global (λ heap. box_owns (ghosts.dealloc_token heap) mesh_row p mesh)
