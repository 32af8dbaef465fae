-- Sets of points as ascending lists of keys, and what the laws of insertion and removal see of them.
use Rattle.std.specs.Prelude.{◌≡◌, refl, ℕ, ◌^◌, Bool, true, false, ◌&&◌, ◌==◌, nat_lt, List, [], ◌∷◌, map}
use Rattle.point_order.specs.Sets.{is_among, with_point, without_point}
use Rattle.point_order.specs.Solid.{is_solid}
use Rattle.del_laws.specs.Cells.{Vertex, point, far}
use Rattle.del_laws.specs.Vertices.{is_cell}

-- x is below the first of the list, if there is one
abbrev pub is_below_first : ℕ → List ℕ → Bool
is_below_first x [] = true
is_below_first x (y ∷ ys) = nat_lt x y

-- the list is ascending, and each of its numbers is a key
abbrev pub is_point_set : List ℕ → Bool
is_point_set [] = true
is_point_set (x ∷ xs) = nat_lt x (2 ^ 42) && is_below_first x xs && is_point_set xs

-- a finite set of points with whole coordinates
pub record PointSet : Type 0 where
  pub points : List ℕ
  pub valid : is_point_set points ≡ true

-- whether two vertices are one
abbrev pub same_vertex : Vertex → Vertex → Bool
same_vertex (point a) (point b) = a == b
same_vertex (point a) far = false
same_vertex far (point b) = false
same_vertex far far = true

-- whether a vertex is a point: its number is a key
abbrev pub is_point : Vertex → Bool
is_point (point a) = nat_lt a (2 ^ 42)
is_point far = false

-- whether a vertex is a point of the set
abbrev pub has_as_point : PointSet → Vertex → Bool
has_as_point s (point a) = is_among a s.points
has_as_point s far = false

-- whether four points of the set are independent
abbrev pub solid : PointSet → Bool
solid s = is_solid s.points

-- whether four vertices are a cell of the complex of the set
unfoldable pub cell : PointSet → Vertex → Vertex → Vertex → Vertex → Bool
cell s w x y z = is_cell s.points w x y z

-- the vertices that a cell of the set can have
abbrev pub vertices : PointSet → List Vertex
vertices s = far ∷ map point s.points

-- the set of a list, if it is one, else another set
abbrev pub set_or : (l : List ℕ) (b : Bool) → is_point_set l ≡ b → PointSet → PointSet
set_or l true e s = record { points = l; valid = e }
set_or l false e s = s

-- the set with a point
unfoldable pub set_with : PointSet → Vertex → PointSet
set_with s (point a) = set_or (with_point a s.points) (is_point_set (with_point a s.points)) refl s
set_with s far = s

-- the set without a point
unfoldable pub minus : PointSet → Vertex → PointSet
minus s (point a) = set_or (without_point a s.points) (is_point_set (without_point a s.points)) refl s
minus s far = s
