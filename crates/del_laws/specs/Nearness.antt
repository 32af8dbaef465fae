-- How near a cell of a complex is to a point that is not in the set, and the laws of walks over such cells.
use Rattle.std.specs.Prelude.{◌≡◌, ℕ, zero, suc, ℤ, pos, neg_ℤ, Bool, true, ◌||◌, List, [], ◌∷◌, if◌then◌else◌}
use Rattle.std.specs.Int.RustNames.{unsigned_abs}
use Rattle.std.specs.Int.Signed.{lt_z}
use Rattle.point_order.specs.declared.cell.Cell.{Cell}
use Rattle.point_order.specs.declared.cell.Cell.TheVariants.{Full, Open}
use Rattle.point_order.specs.Coordinates.{IsKey}
use Rattle.point_order.specs.Orientation.{orientation}
use Rattle.point_order.specs.Heights.{out}
use Rattle.point_order.specs.Spheres.{is_outside}
use Rattle.point_order.specs.Sets.{IsIn, with_point}
use Rattle.point_order.specs.Conflicts.{are_opposite}
use Rattle.del_laws.specs.Cells.{Vertex, point, far}
use Rattle.del_laws.specs.Keys.{AreKeys}
use Rattle.del_laws.specs.Vertices.{is_full_cell, is_open_cell, is_cell}
use Rattle.del_laws.specs.Listed.{cell_of}
use Rattle.del_laws.specs.Walks.{Rank, first, ratio, last, is_before}

-- one less; of 0 it is 0
abbrev pub one_less : ℕ → ℕ
one_less zero = zero
one_less (suc n) = n

-- the ratio l / o of a lifted determinant and an orientation that is not 0
abbrev pub ratio_by : ℤ → ℤ → Rank
ratio_by o l = ratio (if lt_z (pos 0) o then l else neg_ℤ l) (one_less (unsigned_abs o))

-- the rank of an Open cell: first where the point is in conflict with it and so takes it away, else last
abbrev pub open_rank : Bool → Rank
open_rank stays = if stays then last else first

-- the rank of a cell of s for the point p
abbrev pub rank : List ℕ → ℕ → Cell → Rank
rank s p (Full (a ∷ b ∷ c ∷ d ∷ [])) = ratio_by (orientation a b c d) (out a b c d p)
rank s p (Open (a ∷ b ∷ c ∷ [])) = open_rank (is_open_cell (with_point p s) a b c)
rank s p _ = last

-- across a triple of a Full cell that has p strictly on the other side of it than
-- the cell's fourth point, the cell is nearer
abbrev pub NearerAcross : Type 0
NearerAcross =
    (s : List ℕ) (p a b c x : ℕ) (y : Vertex) → AreKeys s → IsKey p → ¬ (IsIn p s) →
    is_cell s (point a) (point b) (point c) (point x) ≡ true → is_cell s (point a) (point b) (point c) y ≡ true →
    ¬ (y ≡ point x) →
    are_opposite a b c x p ≡ true →
    is_before (rank s p (cell_of (point a) (point b) (point c) y))
    (rank s p (cell_of (point a) (point b) (point c) (point x))) ≡ true

-- a Full cell that p is outside of has p strictly on the other side of one of its triples than the fourth point
abbrev pub SomeTripleTowards : Type 0
SomeTripleTowards =
    (s : List ℕ) (p a b c d : ℕ) → AreKeys s → IsKey p → ¬ (IsIn p s) →
    is_full_cell s a b c d ≡ true → is_outside a b c d p ≡ true →
    (are_opposite b c d a p || are_opposite a c d b p || are_opposite a b d c p || are_opposite a b c d p) ≡ true

-- across the triple of an Open cell that stays the cell is nearer
abbrev pub NearerInside : Type 0
NearerInside =
    (s : List ℕ) (p a b c d : ℕ) → AreKeys s → IsKey p → ¬ (IsIn p s) →
    is_open_cell s a b c ≡ true → is_full_cell s a b c d ≡ true → is_open_cell (with_point p s) a b c ≡ true →
    is_before (rank s p (cell_of (point a) (point b) (point c) (point d)))
    (rank s p (cell_of (point a) (point b) (point c) far)) ≡ true
