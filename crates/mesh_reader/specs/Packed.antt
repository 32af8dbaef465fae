-- A mesh as it lies in memory, seen as what a text says.
use Rattle.mesh_reader.specs.declared.mesh_file.MeshFile.{MeshFile}
use Rattle.mesh_reader.specs.declared.mesh_file.PackedMesh.{PackedMesh}
use Rattle.mesh_reader.specs.Grammar.{MeshParts}

-- a mesh without where its lists lie in memory
abbrev pub parts : PackedMesh → MeshParts
parts f =
    record { replies = f.replies.items; points = f.points.items; cells = f.cells; hull = f.hull.items }

-- and one whose cells are not packed
abbrev pub file_parts : MeshFile → MeshParts
file_parts f =
    record { replies = f.replies.items; points = f.points.items; cells = f.cells.items; hull = f.hull.items }
