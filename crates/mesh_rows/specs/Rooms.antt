-- Rows in rooms: how many there are, where a room has too few, and rows that were put.
use Rattle.std.specs.Prelude.{◌≡◌, ℕ, ◌<◌, ◌⊎◌, List, drop, length, take}
use Rattle.mesh_rows.specs.declared.rows.MeshSizes.{MeshSizes}
use Rattle.mesh_rows.specs.declared.rows.FaceSizes.{FaceSizes}
use Rattle.mesh_rows.specs.declared.mesh.Made.{Made}
use Rattle.mesh_rows.specs.declared.levels.Levels.{Levels}

-- the rows stand in the front of the room, and what is behind them is as before
pub record AreRowsPut {A : Type 0} (rows old new : List A) : Type 0 where
  pub front : take (length rows) new ≡ rows
  pub behind : drop (length rows) new ≡ drop (length rows) old

-- the sizes count the rows of the mesh
pub record AreMeshCounts (made : Made) (sizes : MeshSizes) : Type 0 where
  pub points : sizes.points ≡ length made.points.items
  pub cells : sizes.cells ≡ length made.cells.items
  pub hull : sizes.hull ≡ length made.hull.items

-- some room has fewer rows than a mesh of these sizes
abbrev pub LacksMeshRoom : MeshSizes → ℕ → ℕ → ℕ → ℕ → Type 0
LacksMeshRoom sizes points cells neighbours hull =
    (points < sizes.points) ⊎ (cells < sizes.cells) ⊎ (neighbours < sizes.cells) ⊎ (hull < sizes.hull)

-- the sizes count the rows of the faces
pub record AreFaceCounts (levels : Levels) (sizes : FaceSizes) : Type 0 where
  pub points : sizes.points ≡ length levels.point_alphas.items
  pub edges : sizes.edges ≡ length levels.edges.items
  pub triangles : sizes.triangles ≡ length levels.triangles.items
  pub cells : sizes.cells ≡ length levels.cell_alphas.items

-- some room has fewer rows than faces of these sizes
abbrev pub LacksFaceRoom : FaceSizes → ℕ → ℕ → ℕ → ℕ → ℕ → ℕ → Type 0
LacksFaceRoom sizes point_alphas edges edge_alphas triangles triangle_alphas cell_alphas =
    (point_alphas < sizes.points) ⊎ (edges < sizes.edges) ⊎ (edge_alphas < sizes.edges)
    ⊎ (triangles < sizes.triangles) ⊎ (triangle_alphas < sizes.triangles) ⊎ (cell_alphas < sizes.cells)
