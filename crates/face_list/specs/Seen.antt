-- Faces as contracts see them: each with the list of its cells.
use Rattle.std.specs.Prelude.{ℕ, List}
use Rattle.point_order.specs.declared.cell.Cell.{Cell}

-- The cells, and the points, pairs and triples of Full ones, each with the cells that have its points.
pub record FaceLists : Type 0 where
  pub cells : List Cell
  pub points : List (ℕ × List Cell)
  pub pairs : List (List ℕ × List Cell)
  pub triples : List (List ℕ × List Cell)
