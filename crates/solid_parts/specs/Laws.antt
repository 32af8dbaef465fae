-- The boundary of cells of a complex is closed.
use Rattle.std.specs.Prelude.{◌≡◌, ◌≢◌, ℕ, Bool, false, ◌&&◌, List}
use Rattle.list_laws.specs.Laws.{odd}
use Rattle.list_laws.specs.Lists.{AreDistinct, IsIn}
use Rattle.point_order.specs.declared.cell.Cell.TheVariants.{Full}
use Rattle.point_order.specs.Complex.{complex}
use Rattle.point_order.specs.Sets.{IsAscending, is_among}
use Rattle.del_laws.specs.Keys.{AreKeys}
use Rattle.solid_parts.specs.Boundary.{boundary_of}

-- a triangle has both points
abbrev pub has_both : ℕ → ℕ → List ℕ → Bool
has_both x y f = is_among x f && is_among y f

-- Of Full cells of one complex, each once: every pair of points lies in an even number of the boundary's triangles.
abbrev pub EdgesAreEven : Type 0
EdgesAreEven =
    (s : List ℕ) (cells : List (List ℕ)) (x y : ℕ) → IsAscending s → AreKeys s → AreDistinct cells →
    ((q : List ℕ) → IsIn q cells → IsIn (Full q) (complex s)) → x ≢ y → odd (has_both x y) (boundary_of cells) ≡ false
