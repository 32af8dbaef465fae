-- The few facts of geometry from which all laws of insertion and removal follow. They are over tests of four vertices
-- in any order, and do not say what a cell is.
use Rattle.std.specs.Prelude.{◌≡◌, ◌≢◌, Bool, true, false, not, ◌&&◌, ◌||◌, List, ◌⊎◌}
use Rattle.list_laws.specs.Lists.{IsIn, AreDistinct}
use Rattle.del_laws.specs.Cells.{Vertex, far}
use Rattle.del_laws.specs.PointSets.{same_vertex, is_point}

-- ---- tests of vertices

-- a test of four vertices that does not depend on their order
pub record Symmetric (r : Vertex → Vertex → Vertex → Vertex → Bool) : Type 0 where
  pub first : (w x y z : Vertex) → r w x y z ≡ r x w y z
  pub middle : (w x y z : Vertex) → r w x y z ≡ r w y x z
  pub last : (w x y z : Vertex) → r w x y z ≡ r w x z y

-- a test of three vertices that does not depend on their order
pub record Symmetric3 (r : Vertex → Vertex → Vertex → Bool) : Type 0 where
  pub first : (x y z : Vertex) → r x y z ≡ r y x z
  pub last : (x y z : Vertex) → r x y z ≡ r x z y

-- four points: none of the vertices is the infinite one
pub record AreFinite (v1 v2 v3 v4 : Vertex) : Type 0 where
  pub finite1 : v1 ≢ far
  pub finite2 : v2 ≢ far
  pub finite3 : v3 ≢ far
  pub finite4 : v4 ≢ far

-- ---- complexes

-- the vertex across the facet t1, t2, t3 from x, and no third
pub record Across (c : Vertex → Vertex → Vertex → Vertex → Bool) (t1 t2 t3 x : Vertex) : Type 0 where
  pub beyond : Vertex
  pub other : beyond ≢ x
  pub cell : c t1 t2 t3 beyond ≡ true
  pub only : (z : Vertex) → c t1 t2 t3 z ≡ true → (z ≡ x) ⊎ (z ≡ beyond)

-- what the facet law and the definition of a cell give, for any set of points, with all its vertices in a list
pub record Complex (c : Vertex → Vertex → Vertex → Vertex → Bool) (vertices : List Vertex) : Type 0 where
  pub symmetric : Symmetric c
  pub apart : (w x y : Vertex) → c w x y y ≡ false
  pub distinct : AreDistinct vertices
  pub listed : (w x y z : Vertex) → c w x y z ≡ true → IsIn z vertices
  pub across : (t1 t2 t3 x : Vertex) → c t1 t2 t3 x ≡ true → Across c t1 t2 t3 x

-- Full cells that pass a test which is closed across the facets between Full cells: all Full cells pass it
abbrev pub ClosedFull : (Vertex → Vertex → Vertex → Vertex → Bool) → Type 0
ClosedFull c =
    (q : Vertex → Vertex → Vertex → Vertex → Bool) → Symmetric q →
    (a1 a2 a3 a4 : Vertex) → AreFinite a1 a2 a3 a4 → c a1 a2 a3 a4 ≡ true → q a1 a2 a3 a4 ≡ true →
    ((t1 t2 t3 x y : Vertex) → AreFinite t1 t2 t3 x → y ≢ far → c t1 t2 t3 x ≡ true → q t1 t2 t3 x ≡ true →
    c t1 t2 t3 y ≡ true → q t1 t2 t3 y ≡ true) →
    (b1 b2 b3 b4 : Vertex) → AreFinite b1 b2 b3 b4 → c b1 b2 b3 b4 ≡ true → q b1 b2 b3 b4 ≡ true

-- the same of the Full cells at a point v, by their other three points
abbrev pub StarFull : (Vertex → Vertex → Vertex → Vertex → Bool) → Vertex → Type 0
StarFull c v =
    (q : Vertex → Vertex → Vertex → Bool) → Symmetric3 q →
    (a1 a2 a3 : Vertex) → AreFinite a1 a2 a3 v → c a1 a2 a3 v ≡ true → q a1 a2 a3 ≡ true →
    ((t1 t2 x y : Vertex) → AreFinite t1 t2 x v → y ≢ far → c t1 t2 x v ≡ true → q t1 t2 x ≡ true →
    c t1 t2 y v ≡ true → q t1 t2 y ≡ true) →
    (b1 b2 b3 : Vertex) → AreFinite b1 b2 b3 v → c b1 b2 b3 v ≡ true → q b1 b2 b3 ≡ true

-- v is a vertex of a Full cell
pub record Corner (c : Vertex → Vertex → Vertex → Vertex → Bool) (v : Vertex) : Type 0 where
  pub t1 : Vertex
  pub t2 : Vertex
  pub t3 : Vertex
  pub cell : c t1 t2 t3 v ≡ true
  pub finite1 : t1 ≢ far
  pub finite2 : t2 ≢ far
  pub finite3 : t3 ≢ far

-- ---- sets

-- each point of t is one of s
abbrev pub Within : (Set : Type 0) → (Set → Vertex → Bool) → Set → Set → Type 0
Within Set has t s = (q : Vertex) → has t q ≡ true → has s q ≡ true

-- a vertex that a cell of t can have
abbrev pub IsVertexOf : (Set : Type 0) → (Set → Vertex → Bool) → Set → Vertex → Type 0
IsVertexOf Set has t v = (v ≡ far) ⊎ (has t v ≡ true)

-- The facts, for a type of sets with a test of their points, a test whether four of these are independent, the test of
-- four vertices whether they are a cell, the vertices that cells can have, and the set with a point and without one.
pub record Base (Set : Type 0) (has : Set → Vertex → Bool) (solid : Set → Bool)
    (cell : Set → Vertex → Vertex → Vertex → Vertex → Bool) (vertices : Set → List Vertex)
    (plus minus : Set → Vertex → Set) : Type 0 where
  -- sets with the same points are one
  pub extensional : (s t : Set) → ((q : Vertex) → has s q ≡ has t q) → s ≡ t
  pub has_plus : (s : Set) (p q : Vertex) → is_point p ≡ true → has (plus s p) q ≡ (same_vertex p q || has s q)
  pub has_minus : (s : Set) (p q : Vertex) → has (minus s p) q ≡ (not (same_vertex p q) && has s q)
  pub finite : (s : Set) (q : Vertex) → has s q ≡ true → is_point q ≡ true
  -- the facet law
  pub complex : (s : Set) → Complex (cell s) (vertices s)
  pub point : (s : Set) (w x y z : Vertex) → cell s w x y z ≡ true → z ≢ far → has s z ≡ true
  -- a cell of a set is one of each smaller solid set that has its points
  pub smaller : (s t : Set) → solid t ≡ true → Within Set has t s → (w x y z : Vertex) → cell s w x y z ≡ true →
      IsVertexOf Set has t w → IsVertexOf Set has t x → IsVertexOf Set has t y → IsVertexOf Set has t z →
      cell t w x y z ≡ true
  -- a cell of two sets that have a solid part in common is one of each set between the first and both together
  pub union : (r s t u : Set) → solid r ≡ true → Within Set has r s → Within Set has r t → Within Set has s u →
      ((q : Vertex) → has u q ≡ true → (has s q ≡ true) ⊎ (has t q ≡ true)) → (w x y z : Vertex) →
      cell s w x y z ≡ true → cell t w x y z ≡ true → cell u w x y z ≡ true
  -- the star law, around no point and around one
  pub closed_full : (s : Set) → ClosedFull (cell s)
  pub star_full : (s : Set) (v : Vertex) → has s v ≡ true → StarFull (cell s) v
  -- every point of a solid set is a vertex of a Full cell
  pub corner : (s : Set) (v : Vertex) → solid s ≡ true → has s v ≡ true → Corner (cell s) v
  -- a set with the points of a Full cell is solid
  pub full_solid : (s t : Set) (w x y z : Vertex) → cell s w x y z ≡ true → has t w ≡ true → has t x ≡ true →
      has t y ≡ true → has t z ≡ true → solid t ≡ true
  pub solid_more : (s t : Set) → solid s ≡ true → Within Set has s t → solid t ≡ true
