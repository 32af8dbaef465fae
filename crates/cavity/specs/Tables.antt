-- The table by which a cell that goes is found again.
use Rattle.std.specs.Prelude.{◌≡◌, ◌≢◌, ℕ, ◌+◌, ◌*◌, ◌/◌, ◌%◌, ◌^◌, ◌<◌, ◌≤◌, List, [], ◌∷◌, length, slice_get}
use Rattle.std.specs.Prelude.{slice_index_or, Some, bit_and}
use Rattle.point_order.specs.declared.cell.Cell.{Cell}
use Rattle.point_order.specs.declared.cell.Facet.{Facet}
use Rattle.point_order.specs.Facets.{facets_of, points_of}
use Rattle.point_order.specs.Sets.{IsIn}
use Rattle.cavity.specs.declared.cell_table.Mark.{Mark}
use Rattle.cavity.specs.declared.cell_table.Mark.TheVariants.{Free, Gone}

-- an odd number whose product with another depends in its upper bits on all bits of that
abbrev pub factor : ℕ
factor = 11400714819323198485

-- a number with one point more
unfoldable pub mixed_with : ℕ → ℕ → ℕ
mixed_with number p = ((number + p) % 2 ^ 64 * factor) % 2 ^ 64

-- a number and the points of a list, one after another
abbrev pub mixed_all : ℕ → List ℕ → ℕ
mixed_all number [] = number
mixed_all number (p ∷ ps) = mixed_all (mixed_with number p) ps

-- a number for a cell that depends on all of its points
unfoldable pub cell_number : Cell → ℕ
cell_number q = mixed_all 0 (points_of q) / 2 ^ 32

-- the place from which on a cell with a number is looked for
abbrev pub home_under : ℕ → ℕ → ℕ
home_under mask number = bit_and number mask

-- that of a cell
abbrev pub cell_home : ℕ → Cell → ℕ
cell_home mask q = home_under mask (cell_number q)

-- the mark stands in the table at a place from which back to the home none is free
pub record IsReachedFrom (marks : List Mark) (home : ℕ) (mark : Mark) : Type 0 where
  pub place : ℕ
  pub from : home ≤ place
  pub at : slice_index_or marks place Free ≡ mark
  pub taken : (k : ℕ) → home ≤ k → k < place → slice_index_or marks k Free ≢ Free

-- the first free place from the home on, or the end
pub record IsFreeFrom (marks : List Mark) (home at : ℕ) : Type 0 where
  pub from : home ≤ at
  pub below : at ≤ length marks
  pub free : slice_index_or marks at Free ≡ Free
  pub taken : (k : ℕ) → home ≤ k → k < at → slice_index_or marks k Free ≢ Free

-- every mark of a cell that goes is reached still
abbrev pub KeepsReached : List Mark → List Mark → Type 0
KeepsReached old new = (home i : ℕ) → IsReachedFrom old home (Gone i) → IsReachedFrom new home (Gone i)

-- every home lies in the table, and every cell that goes is reached from its home
pub record IsMarked (mask : ℕ) (marks : List Mark) (goes : List Cell) : Type 0 where
  pub homes : mask < length marks
  pub reached : (i : ℕ) (q : Cell) → slice_get goes i ≡ Some q → IsReachedFrom marks (cell_home mask q) (Gone i)

-- another cell that goes than this one is on the facet
pub record IsBeside (goes : List Cell) (cell : Cell) (facet : Facet) : Type 0 where
  pub other : Cell
  pub found : IsIn other goes
  pub has : IsIn facet (facets_of other)
  pub differs : ¬ (other ≡ cell)
