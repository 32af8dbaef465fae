-- What was read of a source, as functions speak of it.
use Rattle.std.specs.Prelude.{◌≡◌, ◌+◌, ◌≤◌, ◌<◌, ℕ, All, List, length, Option, IfSome}
use Rattle.edit_files.specs.Content.{Content, row}
use Rattle.edit_files.specs.Grammar.{IsFile}
use Rattle.edit_files.specs.declared.version.Version.{Version}
use Rattle.mesh_reader.specs.Grammar.{IsMeshText, MeshParts}
use Rattle.mesh_reader.specs.Order.{IsInOrder}
use Rattle.command_pages.specs.Run.{file_limits, input_limit, mesh_limit}

-- the radii are in the range of the version
abbrev pub AreRadii : Version → List ℕ → Type 0
AreRadii version radii = All (λ radius. radius < (row version).radius_end) radii

-- the bytes, within the limit, are the file
abbrev pub IsFileWithin : Content → List ℕ → Type 0
IsFileWithin file bytes = (length bytes ≤ input_limit) × IsFile file_limits bytes file

-- A file that was read: it has no more lines than are taken, its radii are in the range of its version, and it is what
-- the source had left.
pub record IsFileOf (left : Option (List ℕ)) (file : Content) : Type 0 where
  pub lines : length file.points + length file.edits ≤ file_limits.lines
  pub radii : AreRadii file.version file.radii
  pub told : IfSome left (IsFileWithin file)

-- The bytes are all that the source told, within the limit.
pub record HasTakenAll (left : Option (List ℕ)) (bytes : List ℕ) : Type 0 where
  pub within : length bytes ≤ mesh_limit
  pub told : IfSome left (λ told. told ≡ bytes)

-- The mesh is in order, and what the source told is its text, within the limit.
pub record IsMeshOf (left : Option (List ℕ)) (mesh : MeshParts) : Type 0 where
  pub in_order : IsInOrder mesh
  pub told : IfSome left (λ bytes. (length bytes ≤ mesh_limit) × IsMeshText bytes mesh)
