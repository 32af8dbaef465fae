-- What a new point changes in a list of cells.
use Rattle.std.specs.Prelude.{◌≡◌, ℕ, Bool, true, List, ◌∷◌}
use Rattle.point_order.specs.Sets.{IsIn, ascending}
use Rattle.point_order.specs.Facets.{facets_of, points_of}
use Rattle.point_order.specs.declared.cell.Cell.{Cell}
use Rattle.point_order.specs.declared.cell.Cell.TheVariants.{Full, Open}
use Rattle.point_order.specs.declared.cell.Facet.{Facet}
use Rattle.point_order.specs.declared.cell.Facet.TheVariants.{Three, Two}

-- the cell of a facet and the point p
abbrev pub cell_over : Facet → ℕ → Cell
cell_over (Three t) p = Full (ascending (p ∷ t))
cell_over (Two t) p = Open (ascending (p ∷ t))

-- ---- two lists of cells, of a set and of the set with one more point

-- the cell is in the first list and not in the second: the new point takes it away
pub record Goes (l l' : List Cell) (q : Cell) : Type 0 where
  pub before : IsIn q l
  pub after : ¬ (IsIn q l')

-- the cell is in both
pub record Stays (l l' : List Cell) (q : Cell) : Type 0 where
  pub before : IsIn q l
  pub after : IsIn q l'

-- a rim facet: it lies in a cell that goes and in one that stays
pub record IsRimFacet (l l' : List Cell) (f : Facet) : Type 0 where
  pub gone : Cell
  pub goes : Goes l l' gone
  pub of_gone : IsIn f (facets_of gone)
  pub kept : Cell
  pub stays : Stays l l' kept
  pub of_kept : IsIn f (facets_of kept)

-- the cell is that of the new point and a rim facet
pub record IsOverRim (l l' : List Cell) (p : ℕ) (q : Cell) : Type 0 where
  pub f : Facet
  pub rim : IsRimFacet l l' f
  pub is : q ≡ cell_over f p

-- ---- near the new point

-- e is a point of a cell that goes
pub record IsAtGoing (l l' : List Cell) (e : ℕ) : Type 0 where
  pub q : Cell
  pub goes : Goes l l' q
  pub has : IsIn e (points_of q)

-- some cell of the list has both points
pub record AreJoined (l : List Cell) (p e : ℕ) : Type 0 where
  pub q : Cell
  pub listed : IsIn q l
  pub has_p : IsIn p (points_of q)
  pub has_e : IsIn e (points_of q)

-- the cell has a point that is held
pub record HasHeld (held : ℕ → Bool) (q : Cell) : Type 0 where
  pub e : ℕ
  pub has : IsIn e (points_of q)
  pub is_held : held e ≡ true
