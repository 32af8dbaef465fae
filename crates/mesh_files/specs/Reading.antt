-- The report of a mesh alone, whose text is read again as its own parts.
use Rattle.std.specs.Prelude.{◌≡◌, ℕ, ◌≤◌, List, [], None, length}
use Rattle.list_laws.specs.Lists.{IsIn}
use Rattle.mesh_reader.specs.Grammar.{IsMeshText, MeshParts, cell_limit, point_limit}
use Rattle.mesh_reader.specs.Order.{IsInOrder}
use Rattle.mesh_files.specs.Text.{ReportParts, full_corners, hull_corners, report_text}

-- the mesh of a report
abbrev pub mesh_of : ReportParts → MeshParts
mesh_of r =
    record { replies = r.replies; points = r.points; cells = full_corners r.cells; hull = hull_corners r.cells }

-- a report without shapes and without an order block, whose mesh is in order and within what a text may hold
pub record IsOfMesh (r : ReportParts) : Type 0 where
  pub no_shapes : r.shapes ≡ []
  pub no_order : r.order ≡ None
  pub in_order : IsInOrder (mesh_of r)
  pub quadruples : (q : List ℕ) → IsIn q (full_corners r.cells) → length q ≡ 4
  pub triples : (t : List ℕ) → IsIn t (hull_corners r.cells) → length t ≡ 3
  pub reply_count : length r.replies ≤ point_limit
  pub point_count : length r.points ≤ point_limit
  pub cell_count : length (full_corners r.cells) ≤ cell_limit
  pub hull_count : length (hull_corners r.cells) ≤ cell_limit

-- its text is that of its mesh
abbrev pub WrittenIsRead : Type 0
WrittenIsRead = (r : ReportParts) → IsOfMesh r → IsMeshText (report_text r) (mesh_of r)
