-- Cells of a set of points as predicates of four vertices, for any heights, and the two facts on heights that the laws
-- use. The definitions here are the weak form: no "other than", and "at least 0" in place of "above 0". Where there are
-- no ties it says the same.
use Rattle.std.specs.Prelude.{ℕ, pos, ◌*ℤ◌, ◌≡◌, ◌≤ℤ◌, ◌<ℤ◌, List, [], ◌∷◌, ◌⊎◌}
use Rattle.point_order.specs.Orientation.{orientation}
use Rattle.point_order.specs.Heights.{lifted}
use Rattle.point_order.specs.Sets.{IsIn}

-- ---- sets

-- every point of t is one of s
pub record IsSubset (t s : List ℕ) : Type 0 where
  pub inside : (e : ℕ) → IsIn e t → IsIn e s

-- e is one of the four
abbrev pub OneOf : ℕ → ℕ → ℕ → ℕ → ℕ → Type 0
OneOf e a b c d = IsIn e (a ∷ b ∷ c ∷ d ∷ [])

-- four points
pub record Four : Type 0 where
  pub a : ℕ
  pub b : ℕ
  pub c : ℕ
  pub d : ℕ

-- four points of s do not lie in one plane
pub record IsSolid (s : List ℕ) : Type 0 where
  pub f : Four
  pub has_a : IsIn f.a s
  pub has_b : IsIn f.b s
  pub has_c : IsIn f.c s
  pub has_d : IsIn f.d s
  pub apart : ¬ (orientation f.a f.b f.c f.d ≡ pos 0)

-- ---- the two facts on heights

-- No ties: among the points of s, a fifth point does not lie on the sphere through four
-- independent ones, unless it is one of them.
pub record NoTies (h : ℕ → ℕ) (s : List ℕ) : Type 0 where
  pub one_of :
      (a b c d e : ℕ) → IsIn a s → IsIn b s → IsIn c s → IsIn d s → IsIn e s →
      ¬ (orientation a b c d ≡ pos 0) → lifted h a b c d e ≡ pos 0 → OneOf e a b c d

-- Convex: among the points of s, a point in the tetrahedron of four others is inside their sphere.
-- So if no weight of e is negative, and e is not inside, it is one of the four.
pub record IsConvex (h : ℕ → ℕ) (s : List ℕ) : Type 0 where
  pub one_of :
      (a b c d e : ℕ) → IsIn a s → IsIn b s → IsIn c s → IsIn d s → IsIn e s →
      pos 0 <ℤ orientation a b c d →
      pos 0 ≤ℤ orientation b d c e → pos 0 ≤ℤ orientation a c d e → pos 0 ≤ℤ orientation a d b e →
      pos 0 ≤ℤ orientation a b c e →
      pos 0 ≤ℤ lifted h a b c d e → OneOf e a b c d

-- ---- cells

-- A Full cell, its points in an order of positive orientation: no point of s is inside its sphere.
pub record Full (h : ℕ → ℕ) (s : List ℕ) (a b c d : ℕ) : Type 0 where
  pub has_a : IsIn a s
  pub has_b : IsIn b s
  pub has_c : IsIn c s
  pub has_d : IsIn d s
  pub turned : pos 0 <ℤ orientation a b c d
  pub empty : (e : ℕ) → IsIn e s → pos 0 ≤ℤ lifted h a b c d e

-- An Open cell, its points in the order in which s is above their plane. A mate is a point of s off the plane;
-- no point in the plane is inside the sphere of the three and a mate.
pub record Open (h : ℕ → ℕ) (s : List ℕ) (a b c : ℕ) : Type 0 where
  pub has_a : IsIn a s
  pub has_b : IsIn b s
  pub has_c : IsIn c s
  pub mate : ℕ
  pub has_mate : IsIn mate s
  pub above : pos 0 <ℤ orientation a b c mate
  pub bounds : (e : ℕ) → IsIn e s → pos 0 ≤ℤ orientation a b c e
  pub ties : (f e : ℕ) → IsIn f s → IsIn e s → pos 0 <ℤ orientation a b c f → orientation a b c e ≡ pos 0 →
      pos 0 ≤ℤ lifted h a b c f e

-- a vertex of a cell is a point, or the infinite vertex
pub data Vertex : Type 0 where
  point : ℕ → Vertex
  far : Vertex

-- z makes a cell with a, b, c and lies on the positive side of the three, in their order
abbrev pub On : (ℕ → ℕ) → List ℕ → ℕ → ℕ → ℕ → Vertex → Type 0
On h s a b c (point d) = Full h s a b c d
On h s a b c far = Open h s a c b

-- the four make a cell in one of their orders
abbrev pub Held : (ℕ → ℕ) → List ℕ → Vertex → Vertex → Vertex → Vertex → Type 0
Held h s (point a) (point b) (point c) z = On h s a b c z ⊎ On h s a c b z
Held h s (point a) (point b) far (point c) = On h s a b c far ⊎ On h s a c b far
Held h s (point a) far (point b) (point c) = On h s a b c far ⊎ On h s a c b far
Held h s far (point a) (point b) (point c) = On h s a b c far ⊎ On h s a c b far
Held h s _ _ _ _ = ⊥

-- four vertices are a cell of the complex of s
pub record Cell (h : ℕ → ℕ) (s : List ℕ) (w x y z : Vertex) : Type 0 where
  pub held : Held h s w x y z

-- s has a Full cell
pub record HasFull (h : ℕ → ℕ) (s : List ℕ) : Type 0 where
  pub f : Four
  pub full : Full h s f.a f.b f.c f.d

-- s has a Full cell with the vertex e
pub record HasFullAt (h : ℕ → ℕ) (s : List ℕ) (e : ℕ) : Type 0 where
  pub f : Four
  pub full : Full h s f.a f.b f.c f.d
  pub has : OneOf e f.a f.b f.c f.d

-- ---- statements of four vertices

-- a statement of four vertices that does not depend on their order
pub record IsSymmetric (r : Vertex → Vertex → Vertex → Vertex → Type 0) : Type 0 where
  pub swap12 : (w x y z : Vertex) → r w x y z → r x w y z
  pub swap23 : (w x y z : Vertex) → r w x y z → r w y x z
  pub swap34 : (w x y z : Vertex) → r w x y z → r w x z y

-- a set of cells of the complex of s
pub record IsRegion (h : ℕ → ℕ) (s : List ℕ) (r : Vertex → Vertex → Vertex → Vertex → Type 0) : Type 0 where
  pub decide : (w x y z : Vertex) → Dec (r w x y z)
  pub even : IsSymmetric r
  pub held : (w x y z : Vertex) → r w x y z → Held h s w x y z

-- a vertex that a cell of t can have: the infinite one, or a point of t
abbrev pub Inside : List ℕ → Vertex → Type 0
Inside t (point a) = IsIn a t
Inside t far = Unit {0}

-- the four vertices have all the points of k
pub record HavePoints (k : List ℕ) (w x y z : Vertex) : Type 0 where
  pub one_of : (i : ℕ) → IsIn i k → IsIn (point i) (w ∷ x ∷ y ∷ z ∷ [])

-- ---- cells and a point

-- p is not in conflict with an Open cell, as a mate m sees it: it is above
-- the plane, or in it and not inside the circle
pub record IsOutside (h : ℕ → ℕ) (a b c m p : ℕ) : Type 0 where
  pub side : pos 0 ≤ℤ orientation a b c p
  pub tie : orientation a b c p ≡ pos 0 → pos 0 ≤ℤ lifted h a b c m p

-- an Open cell whose plane has p strictly on the side of the set
pub record Faces (h : ℕ → ℕ) (s : List ℕ) (p : ℕ) : Type 0 where
  pub a : ℕ
  pub b : ℕ
  pub c : ℕ
  pub open_cell : Open h s a b c
  pub inside : pos 0 <ℤ orientation a b c p

-- a Full cell, in one of its orders, with p strictly behind the facet without its last point
pub record IsBehind (h : ℕ → ℕ) (s : List ℕ) (p : ℕ) : Type 0 where
  pub a : ℕ
  pub b : ℕ
  pub c : ℕ
  pub d : ℕ
  pub full : Full h s a b c d
  pub low : orientation a b c p <ℤ pos 0

-- what lies across a facet that has p behind it: a Full cell of a lower ratio, or an Open cell in conflict with p
pub data Crossed (h : ℕ → ℕ) (s : List ℕ) (a b c d p : ℕ) : Type 0 where
  full : (f : ℕ) → Full h s a c b f →
      (lifted h a c b f p *ℤ orientation a b c d) <ℤ (lifted h a b c d p *ℤ orientation a c b f) → Crossed h s a b c d p
  in_conflict : Open h s a b c → orientation a b c p <ℤ pos 0 → Crossed h s a b c d p
