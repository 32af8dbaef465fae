-- A complex seen from outside: a test of four vertices, which says whether they make a cell.
-- Nothing here opens the definition of a cell.
use Rattle.std.specs.Prelude.{◌≡◌, ◌≢◌, Bool, true, false, not, ◌&&◌, List}
use Rattle.del_laws.specs.Cells.{Vertex, far}
use Rattle.del_laws.specs.Base.{Symmetric, Symmetric3, Complex}
use Rattle.del_laws.specs.PointSets.{PointSet, has_as_point}

-- a complex, with a list of all vertices that its cells can have
pub record IsComplex (c : Vertex → Vertex → Vertex → Vertex → Bool) : Type 0 where
  pub vertices : List Vertex
  pub laws : Complex c vertices

-- a part of the complex that has a cell, and with each cell those across its facets, is all of it
abbrev pub ClosedPart : (Vertex → Vertex → Vertex → Vertex → Bool) → Type 0
ClosedPart c =
    (part : Vertex → Vertex → Vertex → Vertex → Bool) → Symmetric part →
    (a1 a2 a3 a4 : Vertex) → c a1 a2 a3 a4 ≡ true → part a1 a2 a3 a4 ≡ true →
    ((t1 t2 t3 x y : Vertex) → c t1 t2 t3 x ≡ true → part t1 t2 t3 x ≡ true → c t1 t2 t3 y ≡ true →
    part t1 t2 t3 y ≡ true) →
    (b1 b2 b3 b4 : Vertex) → c b1 b2 b3 b4 ≡ true → part b1 b2 b3 b4 ≡ true

-- the same of the cells at p, each named by its facet without p, and closed across the facets with p
abbrev pub ClosedStar : (Vertex → Vertex → Vertex → Vertex → Bool) → Vertex → Type 0
ClosedStar c p =
    (part : Vertex → Vertex → Vertex → Bool) → Symmetric3 part →
    (a1 a2 a3 : Vertex) → c a1 a2 a3 p ≡ true → part a1 a2 a3 ≡ true →
    ((t1 t2 x y : Vertex) → c t1 t2 x p ≡ true → part t1 t2 x ≡ true → c t1 t2 y p ≡ true → part t1 t2 y ≡ true) →
    (b1 b2 b3 : Vertex) → c b1 b2 b3 p ≡ true → part b1 b2 b3 ≡ true

-- some cell has both v and q
pub record AreLinked (c : Vertex → Vertex → Vertex → Vertex → Bool) (v q : Vertex) : Type 0 where
  pub t1 : Vertex
  pub t2 : Vertex
  pub cell : c t1 t2 q v ≡ true

-- q is opposite to v: the vertex, not the infinite one, across the facet of a cell at v against v
pub record IsOpposite (c : Vertex → Vertex → Vertex → Vertex → Bool) (v q : Vertex) : Type 0 where
  pub t1 : Vertex
  pub t2 : Vertex
  pub t3 : Vertex
  pub here : c t1 t2 t3 v ≡ true
  pub there : c t1 t2 t3 q ≡ true
  pub other : q ≢ v
  pub finite : q ≢ far

-- ---- sets

-- the set s with the new point p
pub record IsAdd (s : PointSet) (p : Vertex) (more : PointSet) : Type 0 where
  pub finite : p ≢ far
  pub absent : has_as_point s p ≡ false
  pub present : has_as_point more p ≡ true
  pub same : (q : Vertex) → q ≢ p → has_as_point more q ≡ has_as_point s q

-- ---- two complexes, of a set and of the set with one more point

-- the cells of c that are none of c': those that the new point takes away
abbrev pub gone : (Vertex → Vertex → Vertex → Vertex → Bool) → (Vertex → Vertex → Vertex → Vertex → Bool) → Vertex →
    Vertex → Vertex → Vertex → Bool
gone c c' w x y z = c w x y z && not (c' w x y z)

-- the point q is a vertex of a cell that goes
pub record IsAtGone (c c' : Vertex → Vertex → Vertex → Vertex → Bool) (q : Vertex) : Type 0 where
  pub t1 : Vertex
  pub t2 : Vertex
  pub t3 : Vertex
  pub cell : gone c c' t1 t2 t3 q ≡ true
  pub finite : q ≢ far

-- a rim facet: it lies in a cell that goes and in one that stays
pub record IsRim (c c' : Vertex → Vertex → Vertex → Vertex → Bool) (t1 t2 t3 : Vertex) : Type 0 where
  pub kept : Vertex
  pub lost : Vertex
  pub kept_before : c t1 t2 t3 kept ≡ true
  pub kept_after : c' t1 t2 t3 kept ≡ true
  pub lost_before : c t1 t2 t3 lost ≡ true
  pub lost_after : c' t1 t2 t3 lost ≡ false

-- some rim facet
pub record HasRim (c c' : Vertex → Vertex → Vertex → Vertex → Bool) : Type 0 where
  pub t1 : Vertex
  pub t2 : Vertex
  pub t3 : Vertex
  pub rim : IsRim c c' t1 t2 t3

-- what an insertion of p is, seen from outside: c is the complex of a solid set, c' that of the set with p
pub record Insertion (c c' : Vertex → Vertex → Vertex → Vertex → Bool) (p : Vertex) : Type 0 where
  pub before : IsComplex c
  pub after : IsComplex c'
  pub whole : ClosedPart c
  pub star : ClosedStar c' p
  pub absent : (w x y : Vertex) → c w x y p ≡ false
  pub old : (w x y z : Vertex) → c' w x y z ≡ true → w ≢ p → x ≢ p → y ≢ p → z ≢ p → c w x y z ≡ true
  pub met : HasRim c c'
