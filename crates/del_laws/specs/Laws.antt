-- The laws of facets, of other sets and of conflict, as the functions of the crate promise them.
-- Each is for any heights, and those that need it say that there are no ties.
use Rattle.std.specs.Prelude.{false, ℕ, pos, true, ◌≡◌, ◌≤ℤ◌, ◌<ℤ◌, List, ◌∷◌, ◌⊎◌, ◌↔◌}
use Rattle.point_order.specs.Orientation.{orientation, is_collinear}
use Rattle.point_order.specs.Heights.{height, lifted}
use Rattle.point_order.specs.Sets.{IsIn}
use Rattle.del_laws.specs.Cells.{Vertex, point, far, Full, Open, Cell, NoTies, IsConvex, IsSubset, IsSolid, Inside}
use Rattle.del_laws.specs.Cells.{IsOutside}
use Rattle.del_laws.specs.Keys.{AreKeys}
use Rattle.del_laws.specs.Vertices.{is_cell}

-- ---- symmetry

-- the first two vertices of a cell may be exchanged
abbrev pub SwapFirst : Type 0
SwapFirst = (h : ℕ → ℕ) (s : List ℕ) (w x y z : Vertex) → Cell h s w x y z → Cell h s x w y z

-- and the middle two
abbrev pub SwapMiddle : Type 0
SwapMiddle = (h : ℕ → ℕ) (s : List ℕ) (w x y z : Vertex) → Cell h s w x y z → Cell h s w y x z

-- and the last two
abbrev pub SwapLast : Type 0
SwapLast = (h : ℕ → ℕ) (s : List ℕ) (w x y z : Vertex) → Cell h s w x y z → Cell h s w x z y

-- ---- facets

-- across the facet t, u, v from the cell with x: the other cell's vertex, and no third cell has the facet
pub record HasOther (h : ℕ → ℕ) (s : List ℕ) (t u v x : Vertex) : Type 0 where
  pub other : Vertex
  pub differs : ¬ (other ≡ x)
  pub cell : Cell h s t u v other
  pub only : (z : Vertex) → Cell h s t u v z → (z ≡ x) ⊎ (z ≡ other)

-- every facet of every cell lies in exactly two cells
abbrev pub FacetLaw : Type 0
FacetLaw = (h : ℕ → ℕ) (s : List ℕ) (t u v x : Vertex) → NoTies h s → Cell h s t u v x → HasOther h s t u v x

-- across a triple of a Full cell lies a Full cell, or the triple is an Open cell
abbrev pub AcrossFull : Type 0
AcrossFull = (h : ℕ → ℕ) (s : List ℕ) (a b c d : ℕ) → Full h s a b c d → ((f : ℕ) × Full h s a c b f) ⊎ Open h s a b c

-- across the triple of an Open cell lies a Full cell, its fourth point on the inner side
abbrev pub AcrossOpen : Type 0
AcrossOpen = (h : ℕ → ℕ) (s : List ℕ) (a b c : ℕ) → Open h s a b c → (d : ℕ) × Full h s a b c d

-- on each side of a triple there is at most one Full cell
abbrev pub OneFullOnASide : Type 0
OneFullOnASide = (h : ℕ → ℕ) (s : List ℕ) (a b c d e : ℕ) → NoTies h s → Full h s a b c d → Full h s a b c e → d ≡ e

-- on each side of a pair there is at most one Open cell
abbrev pub OneOpenOnASide : Type 0
OneOpenOnASide = (h : ℕ → ℕ) (s : List ℕ) (a b x y : ℕ) → NoTies h s → Open h s a b x → Open h s a b y → x ≡ y

-- ---- other sets

-- a cell of a set is a cell of each smaller solid set that has its points
abbrev pub SmallerSet : Type 0
SmallerSet =
    (h : ℕ → ℕ) (t s : List ℕ) → IsSubset t s → IsSolid t →
    (w x y z : Vertex) → Cell h s w x y z → Inside t w → Inside t x → Inside t y → Inside t z → Cell h t w x y z

-- a cell of two sets that have a solid part in common is a cell of each set between the first and both together
abbrev pub BetweenSets : Type 0
BetweenSets =
    (h : ℕ → ℕ) (r s t u : List ℕ) → IsSolid r → IsSubset r s → IsSubset r t → IsSubset s u →
    ((e : ℕ) → IsIn e u → IsIn e s ⊎ IsIn e t) →
    (w x y z : Vertex) → Cell h s w x y z → Cell h t w x y z → Cell h u w x y z

-- ---- planes

-- a solid set has a point off the plane of any three points that are not on one line
abbrev pub NoFlatTriple : Type 0
NoFlatTriple =
    (s : List ℕ) (a b c : ℕ) → IsSolid s → is_collinear a b c ≡ false →
    (f : ℕ) × IsIn f s × ¬ (orientation a b c f ≡ pos 0)

-- in the plane of three points the side of the circle through them is the same as seen from every point above the plane
abbrev pub AnyMate : Type 0
AnyMate =
    (h : ℕ → ℕ) (a b c m k p : ℕ) → pos 0 <ℤ orientation a b c m → pos 0 <ℤ orientation a b c k →
    IsOutside h a b c m p → IsOutside h a b c k p

-- ---- conflict

-- a Full cell is a cell of the set with one more point exactly where the point is not inside its sphere
abbrev pub FullStays : Type 0
FullStays =
    (h : ℕ → ℕ) (s : List ℕ) (a b c d p : ℕ) → Full h s a b c d →
    Cell h (p ∷ s) (point a) (point b) (point c) (point d) ↔ (pos 0 ≤ℤ lifted h a b c d p)

-- an Open cell is one exactly where the point is outside, as any mate sees it
abbrev pub OpenStays : Type 0
OpenStays =
    (h : ℕ → ℕ) (s : List ℕ) (a b c m p : ℕ) → Open h s a b c → IsIn m s → pos 0 <ℤ orientation a b c m →
    Cell h (p ∷ s) (point a) (point b) (point c) far ↔ IsOutside h a b c m p

-- ---- the perturbed heights

-- points with whole coordinates have no ties at the perturbed heights
abbrev pub KeysHaveNoTies : Type 0
KeysHaveNoTies = (s : List ℕ) → AreKeys s → NoTies height s

-- and these are convex
abbrev pub KeysAreConvex : Type 0
KeysAreConvex = (s : List ℕ) → AreKeys s → IsConvex height s

-- the test of four vertices says whether they are a cell at the perturbed heights
abbrev pub TestOfCells : Type 0
TestOfCells = (s : List ℕ) → AreKeys s → (w x y z : Vertex) → (is_cell s w x y z ≡ true) ↔ Cell height s w x y z
