-- The laws of walks over cells, as the functions of the crate promise them; and how near a cell is to a point.
use Rattle.std.specs.Prelude.{ℕ, suc, ℤ, pos, Bool, true, false, ◌*ℤ◌, ◌≡◌, ◌≤ℤ◌, ◌<ℤ◌, ◌<◌, List, ◌∷◌, count_by}
use Rattle.std.specs.Int.Signed.{lt_z}
use Rattle.point_order.specs.Orientation.{orientation}
use Rattle.point_order.specs.Heights.{lifted}
use Rattle.point_order.specs.Sets.{IsIn}
use Rattle.del_laws.specs.Cells.{Full, NoTies, IsConvex, OneOf, IsSolid, HasFull, HasFullAt, Faces, IsBehind, Crossed}

-- ---- crossing

-- across a facet that has e behind it the cell has a lower ratio of lifted
-- determinant and orientation: it is closer to e
abbrev pub CloserAcross : Type 0
CloserAcross =
    (h : ℕ → ℕ) (s : List ℕ) (a b c d f e : ℕ) → NoTies h s → Full h s a b c d → Full h s a c b f →
    orientation a b c e <ℤ pos 0 →
    (lifted h a c b f e *ℤ orientation a b c d) <ℤ (lifted h a b c d e *ℤ orientation a c b f)

-- across a facet that has e before it the cell is farther from e
abbrev pub FartherAcross : Type 0
FartherAcross =
    (h : ℕ → ℕ) (s : List ℕ) (a b c d f e : ℕ) → NoTies h s → Full h s a b c d → Full h s a c b f →
    pos 0 <ℤ orientation a b c e →
    (lifted h a b c d e *ℤ orientation a c b f) <ℤ (lifted h a c b f e *ℤ orientation a b c d)

-- away from every point, in the set or not, some Open cell looks
abbrev pub AwayFromAPoint : Type 0
AwayFromAPoint = (h : ℕ → ℕ) (s : List ℕ) (p : ℕ) → NoTies h s → HasFull h s → Faces h s p

-- ---- existence

-- a solid set has a Full cell
abbrev pub SolidHasCells : Type 0
SolidHasCells = (h : ℕ → ℕ) (s : List ℕ) → NoTies h s → IsSolid s → HasFull h s

-- every point of a solid set is a vertex of a Full cell
abbrev pub EveryPoint : Type 0
EveryPoint = (h : ℕ → ℕ) (s : List ℕ) (e : ℕ) → NoTies h s → IsConvex h s → IsSolid s → IsIn e s → HasFullAt h s e

-- ---- walks

-- a Full cell that is not in conflict with p, and does not have it, has p behind one of its facets
abbrev pub SomeFacetBehind : Type 0
SomeFacetBehind =
    (h : ℕ → ℕ) (s : List ℕ) (a b c d p : ℕ) → IsConvex h (p ∷ s) → Full h s a b c d → pos 0 ≤ℤ lifted h a b c d p →
    ¬ (OneOf p a b c d) →
    IsBehind h s p

-- crossing such a facet leads to a closer Full cell or to an Open cell in conflict
abbrev pub CrossingTowards : Type 0
CrossingTowards = (h : ℕ → ℕ) (s : List ℕ) (a b c d p : ℕ) → NoTies h s → Full h s a b c d →
    orientation a b c p <ℤ pos 0 → Crossed h s a b c d p

-- ---- nearness

-- First the Open cells in conflict with the point, then the Full cells by the ratio n / (d + 1) of lifted determinant
-- and orientation, and last the other Open cells.
pub data Rank : Type 0 where
  first : Rank
  ratio : (n : ℤ) (d : ℕ) → Rank
  last : Rank

-- the one rank comes before the other; ratios are compared by multiplying out
abbrev pub is_before : Rank → Rank → Bool
is_before first first = false
is_before first (ratio m e) = true
is_before first last = true
is_before (ratio n d) first = false
is_before (ratio n d) (ratio m e) = lt_z (n *ℤ pos (suc e)) (m *ℤ pos (suc d))
is_before (ratio n d) last = true
is_before last r = false

-- Of the cells in a list, fewer are nearer than the nearer of two that is in the list. So a walk that comes nearer
-- at each step, over cells of one list, ends.
abbrev pub FewerAreNearer : Type 0 → Type 0
FewerAreNearer X =
    (rank : X → Rank) (x y : X) (held : List X) → is_before (rank y) (rank x) ≡ true → IsIn y held →
    count_by (λ z. is_before (rank z) (rank y)) held < count_by (λ z. is_before (rank z) (rank x)) held
