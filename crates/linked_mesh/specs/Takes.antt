-- A point that is taken from the cells of a set.
use Rattle.std.specs.Prelude.{◌≡◌, ℕ, true, List, ◌++◌}
use Rattle.point_order.specs.declared.cell.Cell.{Cell}
use Rattle.point_order.specs.Sets.{IsIn, without_point}
use Rattle.point_order.specs.Solid.{is_solid}
use Rattle.cell_slots.specs.Clouds.{AreCellsOf}
use Rattle.cell_slots.specs.Stars.{AreStarOf}

-- the star of v was taken out of the cells of s, and the others are left
pub record IsOpenIn (s : List ℕ) (v : ℕ) (rest star : List Cell) : Type 0 where
  pub cells_of : AreCellsOf s (rest ++ star)
  pub has_v : IsIn v s
  pub star_of : AreStarOf s v star

-- of some set
abbrev pub IsOpenInSome : ℕ → List Cell → List Cell → Type 0
IsOpenInSome v rest star = (s : List ℕ) × IsOpenIn s v rest star

-- the rest of the set is solid, and these are its cells
pub record AreLeft (s : List ℕ) (v : ℕ) (cells : List Cell) : Type 0 where
  pub solid : is_solid (without_point v s) ≡ true
  pub cells_of : AreCellsOf (without_point v s) cells
