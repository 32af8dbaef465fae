-- A point that is taken in a part, whose star is taken out of the cells here.
use Rattle.std.specs.Prelude.{◌≡◌, ℕ, Bool, true, false, List, ◌++◌}
use Rattle.point_order.specs.declared.cell.Cell.{Cell}
use Rattle.point_order.specs.Sets.{IsIn, without_point}
use Rattle.point_order.specs.Solid.{is_solid}
use Rattle.cell_slots.specs.Clouds.{AreCellsOf}
use Rattle.cell_slots.specs.Stars.{AreStarOf}
use Rattle.cell_changes.specs.Changes.{IsRefilled}
use Rattle.part_edits.specs.declared.take.Coming.{Coming}
use Rattle.part_edits.specs.declared.take.Coming.TheVariants.{Fresh, Level, Unknown}

-- the star of v was taken out of the cells of s: the rest is here, and others stand elsewhere
pub record IsOpenBeside (others : List Cell) (s : List ℕ) (v : ℕ) (rest star : List Cell) : Type 0 where
  pub cells_of : AreCellsOf s ((rest ++ others) ++ star)
  pub has_v : IsIn v s
  pub star_of : AreStarOf s v star

-- of some set
abbrev pub IsOpenBesideSome : ℕ → List Cell → List Cell → Type 0
IsOpenBesideSome v rest star = (others : List Cell) × (s : List ℕ) × IsOpenBeside others s v rest star

-- the cells that come in place of the star, or that the rest of the set is flat; or that is not known here
abbrev pub IsComing : List ℕ → ℕ → List Cell → Coming → Type 0
IsComing s v star (Fresh cells) = IsRefilled s v star cells.items
IsComing s v star Level = is_solid (without_point v s) ≡ false
IsComing s v star Unknown = Unit {0}

-- where the point is taken, the rest of the set is solid, and these and the others are its cells; else the rest is
-- flat, and they are those of the set
abbrev pub IsTakenBeside : List Cell → List ℕ → ℕ → Bool → List Cell → Type 0
IsTakenBeside others s v true cells =
    (is_solid (without_point v s) ≡ true) × AreCellsOf (without_point v s) (cells ++ others)
IsTakenBeside others s v false cells = (is_solid (without_point v s) ≡ false) × AreCellsOf s (cells ++ others)
