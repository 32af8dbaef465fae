-- The cells of a set that no tile has found: they are cells of the points that are left.
use Rattle.std.specs.Prelude.{ℕ, ◌≡◌, Bool, true, false, List, ◌⊎◌}
use Rattle.point_order.specs.Sets.{IsIn}
use Rattle.del_laws.specs.Base.{Symmetric}
use Rattle.del_laws.specs.Cells.{Vertex, point, Full, Cell, NoTies, IsSubset, IsSolid}
use Rattle.del_laws.specs.Parts.{HasSecond}

-- a point is settled: some cell that is found has it, and on each facet of points that has it, of a cell that is found,
-- lies a second one
pub record IsSettled (q : Vertex → Vertex → Vertex → Vertex → Bool) (e : ℕ) : Type 0 where
  pub u : Vertex
  pub v : Vertex
  pub w : Vertex
  pub some : q (point e) u v w ≡ true
  pub second : (a b : ℕ) (x : Vertex) → q (point e) (point a) (point b) x ≡ true →
      HasSecond q (point e) (point a) (point b) x

-- Cells of a set are found, and each point of the set is settled or left: then each cell of the set is found, or is a
-- cell of the points that are left.
abbrev pub FoundOrLeft : Type 0
FoundOrLeft =
    (h : ℕ → ℕ) (s r : List ℕ) (q : Vertex → Vertex → Vertex → Vertex → Bool) → NoTies h s → Symmetric q →
    IsSubset r s → IsSolid r → ((w x y z : Vertex) → q w x y z ≡ true → Cell h s w x y z) →
    ((e : ℕ) → IsIn e s → IsIn e r ⊎ IsSettled q e) →
    (w x y z : Vertex) → Cell h s w x y z → (q w x y z ≡ true) ⊎ Cell h r w x y z

-- And the Full cell on a side of three points that is not found is the only one of the points left on that side.
abbrev pub OnlyOneLeft : Type 0
OnlyOneLeft =
    (h : ℕ → ℕ) (s r : List ℕ) (q : Vertex → Vertex → Vertex → Vertex → Bool) → NoTies h s → Symmetric q →
    IsSubset r s → IsSolid r → ((w x y z : Vertex) → q w x y z ≡ true → Cell h s w x y z) →
    ((e : ℕ) → IsIn e s → IsIn e r ⊎ IsSettled q e) →
    (a b c d : ℕ) → Full h s a b c d → q (point a) (point b) (point c) (point d) ≡ false →
    Full h r a b c d × ((e : ℕ) → Full h r a b c e → e ≡ d)
