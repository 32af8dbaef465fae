-- How many rows a mesh takes that a handle holds.
use Rattle.std.specs.Prelude.{◌≡◌, List, Option, length}
use Rattle.mesh_handle.specs.Held.{MeshView}
use Rattle.mesh_rows.specs.declared.rows.Place.{Place}
use Rattle.mesh_rows.specs.declared.rows.TriangleRow.{TriangleRow}
use Rattle.mesh_rows.specs.declared.rows.CellRow.{CellRow}
use Rattle.mesh_rows.specs.declared.rows.MeshSizes.{MeshSizes}
use Rattle.mesh_handle.specs.Handles.{ShowsRows}

pub record AreSizesOf (held : Option MeshView) (sizes : MeshSizes) : Type 0 where
  pub points : List Place
  pub cells : List CellRow
  pub neighbours : List CellRow
  pub hull : List TriangleRow
  pub rows : ShowsRows held points cells neighbours hull
  pub point_count : sizes.points ≡ length points
  pub cell_count : sizes.cells ≡ length cells
  pub hull_count : sizes.hull ≡ length hull
