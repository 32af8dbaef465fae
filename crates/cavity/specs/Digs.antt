-- Digs: what is found of the cells that a new point takes away.
use Rattle.std.specs.Prelude.{ℕ, ◌≤◌, List, length}
use Rattle.point_order.specs.declared.cell.Cell.{Cell}
use Rattle.point_order.specs.declared.cell.Facet.{Facet}
use Rattle.point_order.specs.Sets.{IsIn}
use Rattle.hole_laws.specs.Edits.{IsSolidSet, GoesFrom}
use Rattle.hole_laws.specs.Digs.{IsDug}

-- What a dig shows: its point, the cells found so far, how many of them were explored, the first ones first, and the
-- facets of explored cells behind which a cell stays.
pub record Digging : Type 0 where
  pub point : ℕ
  pub found : List Cell
  pub explored : ℕ
  pub rim : List Facet

-- What a dig asks of a set of points: p is none of them, and the cell is one of their complex that p takes away.
pub record CanDig (s : List ℕ) (p : ℕ) (cell : Cell) : Type 0 where
  pub absent : ¬ (IsIn p s)
  pub goes : GoesFrom s p cell

-- the dig is one in the complex of s
abbrev pub IsDigIn : List ℕ → Digging → Type 0
IsDigIn s d = IsDug s d.point d.explored d.found d.rim

-- and it is done: every found cell was explored
pub record IsDoneIn (s : List ℕ) (d : Digging) : Type 0 where
  pub solid : IsSolidSet s
  pub dig : IsDigIn s d
  pub all : length d.found ≤ d.explored

-- there is a set in which it is done
abbrev pub IsDone : Digging → Type 0
IsDone d = (s : List ℕ) × IsDoneIn s d
