-- Parts of the sorted list of a complex: closed parts, the cells at a point,
-- every point, mates, and lists of empty cells.
use Rattle.std.specs.Prelude.{◌≡◌, ℕ, Bool, true, false, List, [], ◌∷◌}
use Rattle.std.specs.List.Sorted.{IsStrictlySortedBy}
use Rattle.point_order.specs.declared.cell.Cell.{Cell}
use Rattle.point_order.specs.declared.cell.Cell.TheVariants.{Full, Open}
use Rattle.point_order.specs.declared.cell.Facet.{Facet}
use Rattle.point_order.specs.declared.cell.Facet.TheVariants.{Three}
use Rattle.point_order.specs.Orientation.{is_flat}
use Rattle.point_order.specs.Sets.{IsIn, IsAscending}
use Rattle.point_order.specs.CellOrder.{cell_cmp}
use Rattle.point_order.specs.Complex.{complex}
use Rattle.point_order.specs.Facets.{facets_of, points_of}
use Rattle.point_order.specs.Solid.{is_solid}
use Rattle.del_laws.specs.Cells.{point}
use Rattle.del_laws.specs.Keys.{AreKeys}
use Rattle.del_laws.specs.Listed.{cell_of, IsListed}

-- ---- closed parts

-- the listed cells that pass the test are closed across the triples that have all the points of k
abbrev pub IsClosedListed : List ℕ → List ℕ → (Cell → Bool) → Type 0
IsClosedListed s k q =
    (c d : Cell) (t : List ℕ) → ((p : ℕ) → IsIn p k → IsIn p t) →
    IsIn c (complex s) → IsIn d (complex s) → IsIn (Three t) (facets_of c) → IsIn (Three t) (facets_of d) →
    q c ≡ true → q d ≡ true

-- listed cells with all the points of k, closed across the triples that have them, are all listed cells that have them
abbrev pub ListedStar : Type 0
ListedStar =
    (s k : List ℕ) (q : Cell → Bool) → IsAscending s → AreKeys s → IsClosedListed s k q →
    (c : Cell) → IsIn c (complex s) → ((p : ℕ) → IsIn p k → IsIn p (points_of c)) → q c ≡ true →
    (d : Cell) → IsIn d (complex s) → ((p : ℕ) → IsIn p k → IsIn p (points_of d)) → q d ≡ true

-- a part of the list that is not empty and closed across triples is the whole list
abbrev pub ListedPart : Type 0
ListedPart =
    (s : List ℕ) (q : Cell → Bool) → IsAscending s → AreKeys s → IsClosedListed s [] q →
    (c : Cell) → IsIn c (complex s) → q c ≡ true → (d : Cell) → IsIn d (complex s) → q d ≡ true

-- listed cells at a point, closed across the triples that have it, are all listed cells at it
abbrev pub ListedAtAPoint : Type 0
ListedAtAPoint =
    (s : List ℕ) (e : ℕ) (q : Cell → Bool) → IsAscending s → AreKeys s → IsClosedListed s (e ∷ []) q →
    (c : Cell) → IsIn c (complex s) → IsIn e (points_of c) → q c ≡ true →
    (d : Cell) → IsIn d (complex s) → IsIn e (points_of d) → q d ≡ true

-- ---- points

-- a listed Full cell with the point
pub record HasListedAt (s : List ℕ) (e : ℕ) : Type 0 where
  pub q : List ℕ
  pub listed : IsIn (Full q) (complex s)
  pub has : IsIn e q

-- every point of a solid set is in a listed Full cell
abbrev pub ListedEveryPoint : Type 0
ListedEveryPoint = (s : List ℕ) (e : ℕ) → IsAscending s → AreKeys s → is_solid s ≡ true → IsIn e s → HasListedAt s e

-- the Full cell on the inner side of a listed Open cell: the triple with its mate,
-- the only listed cell on the triple but itself
pub record HasMate (s : List ℕ) (a b c : ℕ) : Type 0 where
  pub mate : ℕ
  pub inside : IsIn mate s
  pub off : is_flat a b c mate ≡ false
  pub listed : IsIn (cell_of (point a) (point b) (point c) (point mate)) (complex s)
  pub has : IsIn (Three (a ∷ b ∷ c ∷ [])) (facets_of (cell_of (point a) (point b) (point c) (point mate)))

-- every listed Open cell has a mate
abbrev pub ListedMate : Type 0
ListedMate =
    (s : List ℕ) (a b c : ℕ) → IsAscending s → AreKeys s → IsIn (Open (a ∷ b ∷ c ∷ [])) (complex s) → HasMate s a b c

-- ---- lists of empty cells

-- another cell of the list that has the facet
pub record HasSecondCell (l : List Cell) (c : Cell) (f : Facet) : Type 0 where
  pub second : Cell
  pub differs : ¬ (second ≡ c)
  pub listed : IsIn second l
  pub has : IsIn f (facets_of second)

-- what a list of cells shows by itself: it is in order, it is not empty, each member passes the definition of its kind,
-- and each facet of a member lies in another member
pub record IsClosedList (s : List ℕ) (l : List Cell) : Type 0 where
  pub sorted : IsStrictlySortedBy cell_cmp l
  pub some : Cell
  pub has_some : IsIn some l
  pub empty : (c : Cell) → IsIn c l → IsListed s c
  pub closed : (c : Cell) (f : Facet) → IsIn c l → IsIn f (facets_of c) → HasSecondCell l c f

-- such a list is the complex, and the set is solid
abbrev pub ClosedListIsComplex : Type 0
ClosedListIsComplex =
    (s : List ℕ) (l : List Cell) → IsAscending s → AreKeys s → IsClosedList s l → (l ≡ complex s) × (is_solid s ≡ true)

-- And the complex of a solid set is such a list. So each single flaw shows that a list is not the complex.
abbrev pub ComplexIsClosedList : Type 0
ComplexIsClosedList = (s : List ℕ) → IsAscending s → AreKeys s → is_solid s ≡ true → IsClosedList s (complex s)
