-- Parts of the sorted list of a complex.
use Rattle.std.specs.Prelude.{◌≡◌, refl, ℕ, pos, neg_ℤ, ◌<◌, Bool, true, List, [], ◌∷◌}
use Rattle.std.proofs.Common.{inl, inr, ap, sym, subst, ◌∙◌}
use Rattle.list_laws.proofs.Cited.{of_three}
use Rattle.point_order.specs.declared.cell.Cell.{Cell}
use Rattle.point_order.specs.declared.cell.Cell.TheVariants.{Full, Open}
use Rattle.point_order.specs.declared.cell.Facet.TheVariants.{Three}
use Rattle.point_order.specs.Orientation.{orientation}
use Rattle.point_order.specs.Heights.{height}
use Rattle.point_order.specs.Sets.{IsIn, IsAscending, ascending}
use Rattle.point_order.specs.Facets.{points_of}
use Rattle.point_order.proofs.Cited.{ascending_self, in_ascending_from, swap_middle, zero_false}
use Rattle.del_laws.specs.Cells.{Vertex, point, far, Held, HavePoints}
use Rattle.del_laws.specs.Keys.{AreKeys}
use Rattle.del_laws.specs.Vertices.{is_cell}
use Rattle.del_laws.specs.Base.{Symmetric}
use Rattle.del_laws.specs.Listed.{IsListed, cell_of}
use Rattle.del_laws.specs.ListedParts.{IsClosedListed, ListedStar, ListedPart, ListedAtAPoint, ListedEveryPoint}
use Rattle.del_laws.specs.ListedParts.{HasMate, ListedMate}
use Rattle.del_laws.proofs.Lists.{of_four}
use Rattle.del_laws.proofs.CellFacts.{full_d, full_apart}
use Rattle.del_laws.proofs.Across.{across_open}
use Rattle.del_laws.proofs.Walks.{every_point}
use Rattle.del_laws.proofs.Existence.{exists_full}
use Rattle.del_laws.proofs.Perturbed.{no_ties, is_convex}
use Rattle.del_laws.proofs.Bools.{cell_true, cell_from}
use Rattle.del_laws.proofs.PointSets.{solid_from}
use Rattle.del_laws.proofs.Closed.{star_law}
use Rattle.del_laws.proofs.Listed.{listed_is_cell}
use Rattle.del_laws.proofs.Sorting.{turn12, turn23, apart12, apart23, cell_of_swap12, cell_of_swap23, cell_of_swap34}
use Rattle.del_laws.proofs.Sorting.{test_is_listed, less, more, compared}
use Rattle.del_laws.proofs.Neighbours.{has_facet}

-- ---- listed cells by their vertices

-- a listed cell, as the cell of its vertices, which pass the test
pub record IsOf (s : List ℕ) (c : Cell) : Type 0 where
  pub v1 : Vertex
  pub v2 : Vertex
  pub v3 : Vertex
  pub v4 : Vertex
  pub is : c ≡ cell_of v1 v2 v3 v4
  pub test : is_cell s v1 v2 v3 v4 ≡ true
  pub points : (p : ℕ) → IsIn p (points_of c) → IsIn (point p) (v1 ∷ v2 ∷ v3 ∷ v4 ∷ [])

-- every listed cell
pub of_listed : (s : List ℕ) (c : Cell) → IsListed s c → IsOf s c
of_listed s (Full q) l =
    subst (λ (v : List ℕ). IsOf s (Full v)) (sym l.is) (record {
      v1 = point l.a;
      v2 = point l.b;
      v3 = point l.c;
      v4 = point l.d;
      is = ap Full (sym (ascending_self (l.a ∷ l.b ∷ l.c ∷ l.d ∷ []) (l.first, (l.second, (l.third, (tt, tt))))));
      test = l.test;
      points = λ p m. of_four (λ x. IsIn (point x) (point l.a ∷ point l.b ∷ point l.c ∷ point l.d ∷ [])) m (inl refl)
          (inr (inl refl)) (inr (inr (inl refl))) (inr (inr (inr (inl refl))));
    })
of_listed s (Open t) l =
    subst (λ (v : List ℕ). IsOf s (Open v)) (sym l.is) (record {
      v1 = point l.a;
      v2 = point l.b;
      v3 = point l.c;
      v4 = far;
      is = ap Open (sym (ascending_self (l.a ∷ l.b ∷ l.c ∷ []) (l.first, (l.second, (tt, tt)))));
      test = l.test;
      points = λ p m. of_three (λ x. IsIn (point x) (point l.a ∷ point l.b ∷ point l.c ∷ far ∷ [])) m (inl refl)
          (inr (inl refl)) (inr (inr (inl refl)));
    })

-- ---- the star law

-- the test of the cell of four vertices
abbrev of_vertices : (Cell → Bool) → Vertex → Vertex → Vertex → Vertex → Bool
of_vertices q w x y z = q (cell_of w x y z)

-- it does not depend on their order
of_vertices_symmetric : (q : Cell → Bool) → Symmetric (of_vertices q)
of_vertices_symmetric q = record {
  first = λ w x y z. ap q (cell_of_swap12 w x y z);
  middle = λ w x y z. ap q (cell_of_swap23 w x y z);
  last = λ w x y z. ap q (cell_of_swap34 w x y z);
}

module _ (s : List ℕ) (k : List ℕ) (q : Cell → Bool) (a : IsAscending s) (keys : AreKeys s)
    (closed : IsClosedListed s k q) (x y : Vertex) where
  -- across a triple that has the points
  abbrev Crosses : ℕ → ℕ → ℕ → Type 0
  Crosses e f g =
      ((p : ℕ) → IsIn p k → IsIn p (e ∷ f ∷ g ∷ [])) → is_cell s (point e) (point f) (point g) x ≡ true →
      is_cell s (point e) (point f) (point g) y ≡ true →
      q (cell_of (point e) (point f) (point g) x) ≡ true → q (cell_of (point e) (point f) (point g) y) ≡ true

  -- in order
  crosses_sorted : (e f g : ℕ) → e < f → f < g → Crosses e f g
  crosses_sorted e f g l m i t u h =
      closed (cell_of (point e) (point f) (point g) x) (cell_of (point e) (point f) (point g) y) (e ∷ f ∷ g ∷ []) i
      (test_is_listed s a keys (point e) (point f) (point g) x t)
      (test_is_listed s a keys (point e) (point f) (point g) y u)
      (has_facet s keys (Three (e ∷ f ∷ g ∷ [])) x (l, m) t) (has_facet s keys (Three (e ∷ f ∷ g ∷ [])) y (l, m) u) h

  -- the first two exchanged
  crosses12 : (e f g : ℕ) → Crosses f e g → Crosses e f g
  crosses12 e f g h i t u j =
      ap q (cell_of_swap12 (point e) (point f) (point g) y)
      ∙ h (λ p m. of_three (λ v. IsIn v (f ∷ e ∷ g ∷ [])) (i p m) (inr (inl refl)) (inl refl) (inr (inr (inl refl))))
      (turn12 s keys (point e) (point f) (point g) x t) (turn12 s keys (point e) (point f) (point g) y u)
      (sym (ap q (cell_of_swap12 (point e) (point f) (point g) x)) ∙ j)

  -- the last two exchanged
  crosses23 : (e f g : ℕ) → Crosses e g f → Crosses e f g
  crosses23 e f g h i t u j =
      ap q (cell_of_swap23 (point e) (point f) (point g) y)
      ∙ h (λ p m. of_three (λ v. IsIn v (e ∷ g ∷ f ∷ [])) (i p m) (inl refl) (inr (inr (inl refl))) (inr (inl refl)))
      (turn23 s keys (point e) (point f) (point g) x t) (turn23 s keys (point e) (point f) (point g) y u)
      (sym (ap q (cell_of_swap23 (point e) (point f) (point g) x)) ∙ j)

  -- the first put among two in order
  crosses_put : (e f g : ℕ) → f < g → Crosses e f g
  crosses_put e f g m i t u j =
      elim (compared e f (λ d. apart12 s keys (point e) (point f) (point g) x t (ap point d))) [
        | less l ↦ crosses_sorted e f g l m i t u j
        | more l ↦ crosses12 e f g (λ i2 t2 u2 j2. elim (compared e g
            (λ d. apart23 s keys (point f) (point e) (point g) x t2 (ap point d))) [
              | less n ↦ crosses_sorted f e g l n i2 t2 u2 j2
              | more n ↦ crosses23 f e g (crosses_sorted f g e m n) i2 t2 u2 j2
            ]) i t u j
      ]

  -- in any order
  crosses : (e f g : ℕ) → Crosses e f g
  crosses e f g i t u j = elim (compared f g (λ d. apart23 s keys (point e) (point f) (point g) x t (ap point d))) [
    | less l ↦ crosses_put e f g l i t u j
    | more l ↦ crosses23 e f g (crosses_put e g f l) i t u j
  ]

-- a listed cell has the points
have_of : (s k : List ℕ) (c : Cell) (o : IsOf s c) → ((p : ℕ) → IsIn p k → IsIn p (points_of c)) →
    HavePoints k o.v1 o.v2 o.v3 o.v4
have_of s k c o f = record { one_of = λ i m. o.points i (f i m) }

-- the star law over listed cells
pub listed_star : ListedStar
listed_star s k q a keys closed c mc fc hc d md fd =
    let o = of_listed s c (listed_is_cell s c a mc) in
    let r = of_listed s d (listed_is_cell s d a md) in
    ap q r.is
    ∙ star_law height s k (of_vertices q) (no_ties s keys) (of_vertices_symmetric q)
    (λ e f g x y i C t D. crosses s k q a keys closed x y e f g i.inside
    (cell_true s keys (point e) (point f) (point g) x C.held) (cell_true s keys (point e) (point f) (point g) y D.held)
    t)
    o.v1 o.v2 o.v3 o.v4 (record { held = cell_from s o.v1 o.v2 o.v3 o.v4 o.test }) (have_of s k c o fc)
    (sym (ap q o.is) ∙ hc)
    r.v1 r.v2 r.v3 r.v4 (record { held = cell_from s r.v1 r.v2 r.v3 r.v4 r.test }) (have_of s k d r fd)

-- a closed part
pub listed_part : ListedPart
listed_part s q a keys closed c mc hc d md =
    listed_star s [] q a keys closed c mc (λ p m. absurd m) hc d md (λ p m. absurd m)

-- the cells at a point
pub listed_at_a_point : ListedAtAPoint
listed_at_a_point s e q a keys closed c mc fc hc d md fd =
    listed_star s (e ∷ []) q a keys closed c mc (one c fc) hc d md (one d fd)
  where
    -- the one point
    one : (c : Cell) → IsIn e (points_of c) → (p : ℕ) → IsIn p (e ∷ []) → IsIn p (points_of c)
    one c m p i = elim i [ inl j ↦ subst (λ v. IsIn v (points_of c)) j m | inr none ↦ absurd none ]

-- ---- points

-- a solid set has a listed Full cell at each of its points
pub listed_every_point : ListedEveryPoint
listed_every_point s e a keys i m =
    let n = no_ties s keys in
    let F = exists_full n (solid_from s i) in
    let t = every_point n (is_convex s keys) F.full e m in
    let f = t.f in
    record {
      q = ascending (f.a ∷ f.b ∷ f.c ∷ f.d ∷ []);
      listed = test_is_listed s a keys (point f.a) (point f.b) (point f.c) (point f.d)
          (cell_true s keys (point f.a) (point f.b) (point f.c) (point f.d) (inl t.full));
      has = in_ascending_from (f.a ∷ f.b ∷ f.c ∷ f.d ∷ []) e t.has;
    }

-- three points flat in one order are in the other
turned : (a b c d : ℕ) → orientation a b c d ≡ pos 0 → orientation a c b d ≡ pos 0
turned a b c d z = swap_middle a b c d ∙ ap neg_ℤ z

-- the mate of a listed Open cell
pub listed_mate : ListedMate
listed_mate s a b c asc keys m = (
    let l = listed_is_cell s (Open (a ∷ b ∷ c ∷ [])) asc m in
    let u : is_cell s (point a) (point b) (point c) far ≡ true = moved_test l.a l.b l.c l.is l.test in
    let o : (a < b) × (b < c) = moved_order l.a l.b l.c l.is (l.first, l.second) in
    by_side o (cell_from s (point a) (point b) (point c) far u))
  where
    -- the test at the three points
    moved_test : (x y z : ℕ) → a ∷ b ∷ c ∷ [] ≡ x ∷ y ∷ z ∷ [] → is_cell s (point x) (point y) (point z) far ≡ true →
        is_cell s (point a) (point b) (point c) far ≡ true
    moved_test x y z e t = (
        let p : a ≡ x = cc in
        let q : b ≡ y = cc in
        let r : c ≡ z = cc in
        subst (λ v. is_cell s (point v) (point b) (point c) far ≡ true) (sym p)
        (subst (λ v. is_cell s (point x) (point v) (point c) far ≡ true) (sym q)
        (subst (λ v. is_cell s (point x) (point y) (point v) far ≡ true) (sym r) t)))

    -- their order
    moved_order : (x y z : ℕ) → a ∷ b ∷ c ∷ [] ≡ x ∷ y ∷ z ∷ [] → (x < y) × (y < z) → (a < b) × (b < c)
    moved_order x y z e t = (
        let p : a ≡ x = cc in
        let q : b ≡ y = cc in
        let r : c ≡ z = cc in (
          subst (λ v. v < b) (sym p) (subst (λ v. x < v) (sym q) t.0),
          subst (λ v. v < c) (sym q) (subst (λ v. y < v) (sym r) t.1),
        ))

    -- with the fourth point of the Full cell across
    made : (d : ℕ) → (a < b) × (b < c) → Held height s (point a) (point b) (point c) (point d) → IsIn d s →
        ¬ (orientation a b c d ≡ pos 0) → HasMate s a b c
    made d o H i n = (
        let t = cell_true s keys (point a) (point b) (point c) (point d) H in
        record {
          mate = d;
          inside = i;
          off = zero_false (orientation a b c d) n;
          listed = test_is_listed s asc keys (point a) (point b) (point c) (point d) t;
          has = has_facet s keys (Three (a ∷ b ∷ c ∷ [])) (point d) o t;
        })

    -- on whichever side it is
    by_side : (a < b) × (b < c) → Held height s (point a) (point b) (point c) far → HasMate s a b c
    by_side o H = elim H [
      | inl F ↦ (let d = across_open F in made d.0 o (inr d.1) (full_d d.1) (λ z. full_apart d.1 (turned a b c d.0 z)))
      | inr F ↦ (let d = across_open F in made d.0 o (inl d.1) (full_d d.1) (full_apart d.1))
    ]
