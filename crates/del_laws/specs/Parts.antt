-- The laws of stars and closed parts, as the functions of the crate promise them.
-- A set of cells is a test of four vertices, of which the laws ask only at cells.
use Rattle.std.specs.Prelude.{ℕ, ◌≡◌, Bool, true, List, [], ◌∷◌}
use Rattle.del_laws.specs.Cells.{Vertex, point, Cell, NoTies, IsSubset, HavePoints}
use Rattle.del_laws.specs.Base.{Symmetric}

-- the cells that pass the test are closed across the triples that have all the points of k
abbrev pub IsClosedAround : (ℕ → ℕ) → List ℕ → List ℕ → (Vertex → Vertex → Vertex → Vertex → Bool) → Type 0
IsClosedAround h s k q =
    (a b c : ℕ) (x y : Vertex) → IsSubset k (a ∷ b ∷ c ∷ []) →
    Cell h s (point a) (point b) (point c) x → q (point a) (point b) (point c) x ≡ true →
    Cell h s (point a) (point b) (point c) y → q (point a) (point b) (point c) y ≡ true

-- The star law: cells around some points, closed across the triples that have these points, are all cells around them.
abbrev pub StarLaw : Type 0
StarLaw =
    (h : ℕ → ℕ) (s k : List ℕ) (q : Vertex → Vertex → Vertex → Vertex → Bool) → NoTies h s → Symmetric q →
    IsClosedAround h s k q →
    (t u v w : Vertex) → Cell h s t u v w → HavePoints k t u v w → q t u v w ≡ true →
    (x y z o : Vertex) → Cell h s x y z o → HavePoints k x y z o → q x y z o ≡ true

-- A part of the complex that is not empty and is closed across triples is the whole.
abbrev pub ClosedPart : Type 0
ClosedPart =
    (h : ℕ → ℕ) (s : List ℕ) (q : Vertex → Vertex → Vertex → Vertex → Bool) → NoTies h s → Symmetric q →
    ((a b c : ℕ) (x y : Vertex) →
    Cell h s (point a) (point b) (point c) x → q (point a) (point b) (point c) x ≡ true →
    Cell h s (point a) (point b) (point c) y → q (point a) (point b) (point c) y ≡ true) →
    (t u v w : Vertex) → Cell h s t u v w → q t u v w ≡ true →
    (x y z o : Vertex) → Cell h s x y z o → q x y z o ≡ true

-- Cells at a vertex, closed across the triples that have the vertex, are all cells at it.
abbrev pub CellsAtAVertex : Type 0
CellsAtAVertex =
    (h : ℕ → ℕ) (s : List ℕ) (e : ℕ) (q : Vertex → Vertex → Vertex → Vertex → Bool) → NoTies h s → Symmetric q →
    ((a b : ℕ) (x y : Vertex) →
    Cell h s (point e) (point a) (point b) x → q (point e) (point a) (point b) x ≡ true →
    Cell h s (point e) (point a) (point b) y → q (point e) (point a) (point b) y ≡ true) →
    (u v w : Vertex) → Cell h s (point e) u v w → q (point e) u v w ≡ true →
    (x y z : Vertex) → Cell h s (point e) x y z → q (point e) x y z ≡ true

-- a second vertex that passes on a facet
pub record HasSecond (q : Vertex → Vertex → Vertex → Vertex → Bool) (t u v x : Vertex) : Type 0 where
  pub at : Vertex
  pub differs : ¬ (at ≡ x)
  pub holds : q t u v at ≡ true

-- Empty cells, not none, of which each facet lies in a second one, are all cells.
abbrev pub EmptyCells : Type 0
EmptyCells =
    (h : ℕ → ℕ) (s : List ℕ) (q : Vertex → Vertex → Vertex → Vertex → Bool) → NoTies h s → Symmetric q →
    ((w x y z : Vertex) → q w x y z ≡ true → Cell h s w x y z) →
    ((t u v x : Vertex) → q t u v x ≡ true → HasSecond q t u v x) →
    (t u v w : Vertex) → q t u v w ≡ true →
    (x y z o : Vertex) → Cell h s x y z o → q x y z o ≡ true
