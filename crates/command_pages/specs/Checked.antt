-- The command `check`: what is told of the text of a mesh, and why nothing is.
use Rattle.std.specs.Prelude.{◌≡◌, ◌⊎◌, ◌<◌, ◌≤◌, ℕ, List, [], length, Option, IfSome, if◌then◌else◌, ⊤}
use Rattle.text_readings.specs.declared.fault.Fault.{Fault}
use Rattle.mesh_reader.specs.Faults.{IsMeshFault}
use Rattle.mesh_reader.specs.Grammar.{IsMeshText, MeshParts}
use Rattle.mesh_check.specs.declared.flaw.Verdict.{Verdict}
use Rattle.mesh_check.specs.Flaws.{IsVerdict, as_cells, IsComplex}
use Rattle.mesh_check.specs.Text.{is_good, verdict_text}
use Rattle.command_words.specs.declared.stop.Stop.{Stop}
use Rattle.command_words.specs.declared.stop.Stop.TheVariants.{Memory, ReadFault, BadLine, TooLong}
use Rattle.command_pages.specs.Command.{Command}
use Rattle.command_pages.specs.Run.{mesh_limit}
use Rattle.command_pages.specs.Statuses.{IsLineOf}

-- the status of a verdict
abbrev pub status_of_verdict : Verdict → ℕ
status_of_verdict verdict = if is_good verdict then 0 else 10

-- What is told of a mesh: the status and the text of the verdict on it.
pub record IsJudged (mesh : MeshParts) (status : ℕ) (text : List ℕ) : Type 0 where
  pub verdict : Verdict
  pub is_verdict : IsVerdict mesh.points (as_cells mesh.cells mesh.hull) verdict
  pub status_is : status ≡ status_of_verdict verdict
  pub text_is : text ≡ verdict_text mesh.points verdict

-- The bytes, within the limit, are the text of a mesh, and this is told of it.
pub record IsChecked (status : ℕ) (text bytes : List ℕ) : Type 0 where
  pub within : length bytes ≤ mesh_limit
  pub mesh : MeshParts
  pub is_mesh : IsMeshText bytes mesh
  pub judged : IsJudged mesh status text

-- the status is that of a verdict
abbrev pub TellsVerdict : ℕ → Type 0
TellsVerdict status = (status ≡ 0) ⊎ (status ≡ 10)

-- why nothing is told, where the source had these bytes left, and by whether it failed
abbrev pub IsUnchecked : Option (List ℕ) → Type 0 → Stop → Type 0
IsUnchecked left failed Memory = ⊤
IsUnchecked left failed ReadFault = failed
IsUnchecked left failed (BadLine line) =
    IsLineOf IsMeshFault left line.items × IfSome left (λ bytes. length bytes ≤ mesh_limit)
IsUnchecked left failed TooLong = IfSome left (λ bytes. mesh_limit < length bytes)
IsUnchecked left failed stop = ⊥

-- the mesh is the complex of its points, which are solid
abbrev pub IsTrueMesh : MeshParts → Type 0
IsTrueMesh mesh = IsComplex mesh.points (as_cells mesh.cells mesh.hull)

-- the bytes, within the limit, are the text of a mesh
abbrev pub IsMeshWithin : List ℕ → Type 0
IsMeshWithin bytes = (length bytes ≤ mesh_limit) × ((mesh : MeshParts) × IsMeshText bytes mesh)

-- the bytes are of no mesh, and have a fault
abbrev pub HasMeshFault : List ℕ → Type 0
HasMeshFault bytes = (fault : Fault) × IsMeshFault bytes fault

-- The command.
abbrev pub checking : Command
checking =
    record {
      limit = mesh_limit;
      is_fault = λ bytes fault. IsMeshFault bytes fault;
      makes = λ words left late h text. TellsVerdict late × (h ≡ []) × IfSome left (IsChecked late text);
      makes_none = λ left failed stop. IsUnchecked left failed stop;
    }
