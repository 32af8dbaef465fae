-- A shape as contracts see it: a slot for each face of the complex, empty where the face is not admitted.
use Rattle.std.specs.Prelude.{ℕ, Bool, true, false, List, map, zip, Option, None, Some, option_map}
use Rattle.point_order.specs.declared.cell.Cell.{Cell}
use Rattle.point_order.specs.declared.cell.Cell.TheVariants.{Full, Open}
use Rattle.alpha_complex.specs.declared.shape.Kind.{Kind}
use Rattle.alpha_complex.specs.Shapes.{ShapeParts}
use Rattle.list_laws.specs.Lists.{held}

-- All points with their kinds, a slot for each pair and triple of the complex, with its kind, and one for each cell,
-- with its points.
pub record ShapeSlots : Type 0 where
  pub points : List (ℕ × Kind)
  pub pairs : List (Option (List ℕ × Kind))
  pub triples : List (Option (List ℕ × Kind))
  pub cells : List (Option (List ℕ))

-- a slot for each face: it with its kind, where it has one
abbrev pub slots_of : {X : Type 0} → List X → List (Option Kind) → List (Option (X × Kind))
slots_of faces kinds = map (λ f. option_map (λ kind. (f.0, kind)) f.1) (zip faces kinds)

-- the points of a cell, where it is Full and marked
abbrev pub marked_cell : Cell → Bool → Option (List ℕ)
marked_cell (Full q) true = Some q
marked_cell (Full q) false = None
marked_cell (Open t) mark = None

-- a slot for each cell
abbrev pub cell_slots_of : List Cell → List Bool → List (Option (List ℕ))
cell_slots_of cells marks = map (λ c. marked_cell c.0 c.1) (zip cells marks)

-- what a shape says: all its points, and what its slots hold
abbrev pub shape_seen : ShapeSlots → ShapeParts
shape_seen shape = record {
  points = shape.points;
  pairs = held shape.pairs;
  triples = held shape.triples;
  cells = held shape.cells;
}
