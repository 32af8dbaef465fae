-- The cells of a set of points that one owner changes.
use Rattle.std.specs.Prelude.{◌≡◌, ℕ, List, [], ◌∷◌, ◌++◌, Option, Some}
use Rattle.point_order.specs.declared.cell.Cell.{Cell}
use Rattle.point_order.specs.Facets.{points_of}
use Rattle.list_laws.specs.Lists.{AreDistinct}
use Rattle.point_order.specs.Sets.{IsIn, with_point}
use Rattle.hole_laws.specs.Edits.{IsNew, IsSolidSet}
use Rattle.cell_slots.specs.Clouds.{AreCellsOf}
use Rattle.net_digs.specs.Digs.{IsHoleFilled}
use Rattle.cell_slots.specs.Nets.{AreMoved, slot_at}
use Rattle.cell_slots.specs.Parts.{Grow, InEach, InEachSet}
use Rattle.cell_slots.specs.Stars.{AreStarOf}

-- the cells are those of some set with the point
abbrev pub AreCellsWith : ℕ → List Cell → Type 0
AreCellsWith v cells = (s : List ℕ) × AreCellsOf s cells × IsIn v s

-- the cells are those of some set, to which the point is new
abbrev pub AreCellsLacking : ℕ → List Cell → Type 0
AreCellsLacking p cells = (s : List ℕ) × AreCellsOf s cells × IsNew s p

-- the cell of the slot, if it has one, has not the point
abbrev pub NoneHasAt : ℕ → List (Option Cell) → ℕ → Type 0
NoneHasAt v slots i = (q : Cell) → slot_at slots i ≡ Some q → ¬ (IsIn v (points_of q))

-- the cells and some others are those of some set with the point
pub record ArePartWith (v : ℕ) (cells : List Cell) : Type 0 where
  pub others : List Cell
  pub set : List ℕ
  pub cells_of : AreCellsOf set (cells ++ others)
  pub has : IsIn v set

-- or of some set, to which the point is new
pub record ArePartLacking (p : ℕ) (cells : List Cell) : Type 0 where
  pub others : List Cell
  pub set : List ℕ
  pub cells_of : AreCellsOf set (cells ++ others)
  pub new : IsNew set p

-- the slot has a cell with the point
pub record IsSlotOf (v : ℕ) (slots : List (Option Cell)) (i : ℕ) : Type 0 where
  pub cell : Cell
  pub at : slot_at slots i ≡ Some cell
  pub has : IsIn v (points_of cell)

-- what contracts see of linked cells: the cells, and how many can be put in without memory
pub record LinkedView : Type 0 where
  pub cells : List Cell
  pub room : ℕ

-- ---- a point that came

-- the cells are among those of the list
abbrev pub AreAllAmong : List Cell → List Cell → Type 0
AreAllAmong cells l = (q : Cell) → IsIn q cells → IsIn q l

-- gone are the cells of s that p took away, each once, and fresh those that it brought
pub record HasArrived (s : List ℕ) (p : ℕ) (gone fresh : List Cell) : Type 0 where
  pub solid : IsSolidSet s
  pub new : IsNew s p
  pub filled : IsHoleFilled s p gone fresh
  pub gone_once : AreDistinct gone

-- so of some set, and the cells are those of the set with p
abbrev pub HasArrivedInSome : ℕ → List Cell → List Cell → List Cell → Type 0
HasArrivedInSome p gone fresh cells =
    (s : List ℕ) × HasArrived s p gone fresh × AreCellsOf (with_point p s) cells

-- what contracts see of a point that came: the point, the cells that it took away, and those that it brought
pub record ArrivalView : Type 0 where
  pub point : ℕ
  pub gone : List Cell
  pub fresh : List Cell

-- ---- in a part

-- the star of v was taken out of the cells, and the others are left: it is the star in each set of which these are
-- cells
pub record IsOpened (v : ℕ) (old rest star : List Cell) : Type 0 where
  pub moved : AreMoved old (rest ++ star)
  pub star_of : InEachSet old (λ s. AreStarOf s v star)

-- p came to the cells, whatever others there are: it took some away, and brought others
pub record HasComeTo (p : ℕ) (old gone fresh new : List Cell) : Type 0 where
  pub arrived : InEach p old (λ s. HasArrived s p gone fresh)
  pub grow : Grow (p ∷ []) old new
