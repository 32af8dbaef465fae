-- The facets of a cell with its points in order: one against each vertex, which the other three vertices tell.
use Rattle.std.specs.Prelude.{◌≡◌, ◌≢◌, ℕ, ◌<◌, true, List, [], ◌∷◌, ◌⊎◌}
use Rattle.std.proofs.Common.{refl, sym, ap, subst, inl, inr, arith}
use Rattle.std.proofs.lemmas.Bool.{false≢true, cases_eq}
use Rattle.list_laws.proofs.Cited.{among_from, among_true, four_is, four_true, same_members}
use Rattle.point_order.specs.Sets.{IsIn, IsAscending, is_among, ascending}
use Rattle.point_order.specs.Facets.{facets_of}
use Rattle.point_order.specs.declared.cell.Cell.{Cell}
use Rattle.point_order.specs.declared.cell.Cell.TheVariants.{Full, Open}
use Rattle.point_order.specs.declared.cell.Facet.{Facet}
use Rattle.point_order.specs.declared.cell.Facet.TheVariants.{Three, Two}
use Rattle.point_order.proofs.Cited.{ascending_is}
use Rattle.del_laws.specs.Cells.{Vertex, point, far}
use Rattle.del_laws.proofs.Cited.{point_finite, same_point}
use Rattle.hole_laws.specs.Lists.{cell_over}
use Rattle.hole_laws.proofs.Vertex.{has_vertex, has_vertices, IsOrdered, IsFacetVertex}
use Rattle.hole_laws.proofs.Order.{AreFourVertices, swap34}
use Rattle.hole_laws.proofs.CellVertices.{all_vertices}

-- the points of a facet, in order
abbrev pub IsOrderedFacet : Facet → Type 0
IsOrderedFacet (Three t) = IsAscending t
IsOrderedFacet (Two t) = IsAscending t

-- f is the facet of q against its vertex z, and has the other three
pub record IsAgainst (q : Cell) (z : Vertex) (f : Facet) : Type 0 where
  pub listed : IsIn f (facets_of q)
  pub ordered : IsOrderedFacet f
  pub t1 : Vertex
  pub t2 : Vertex
  pub t3 : Vertex
  pub four : AreFourVertices t1 t2 t3 z
  pub vertices : has_vertices q t1 t2 t3 z ≡ true
  pub into : (v : Vertex) → IsFacetVertex f v → has_vertex q v ≡ true
  pub apart : ¬ (IsFacetVertex f z)
  pub rest : (v : Vertex) → has_vertex q v ≡ true → v ≢ z → IsFacetVertex f v

-- ---- the four facets of each kind of cell

-- points with different keys
differ : (a b : ℕ) → a < b → point a ≢ point b
differ a b l e = omega (arith, same_point a b e)

-- four points in order
four_points : (a b c d : ℕ) → a < b → b < c → c < d → AreFourVertices (point a) (point b) (point c) (point d)
four_points a b c d ab bc cd = record {
  wx = differ a b ab;
  wy = differ a c (omega arith);
  wz = differ a d (omega arith);
  xy = differ b c bc;
  xz = differ b d (omega arith);
  yz = differ c d cd;
}

-- three points in order and the infinite vertex
three_points : (a b c : ℕ) → a < b → b < c → AreFourVertices (point a) (point b) (point c) far
three_points a b c ab bc = record {
  wx = differ a b ab;
  wy = differ a c (omega arith);
  wz = point_finite a;
  xy = differ b c bc;
  xz = point_finite b;
  yz = point_finite c;
}

-- the last to the place of the first
last_first : {w x y z : Vertex} → AreFourVertices w x y z → AreFourVertices x y z w
last_first d =
    record { wx = d.xy; wy = d.xz; wz = λ e. d.wx (sym e); xy = d.yz; xz = λ e. d.wy (sym e); yz = λ e. d.wz (sym e) }

-- the second last
last_second : {w x y z : Vertex} → AreFourVertices w x y z → AreFourVertices w y z x
last_second d = record { wx = d.wy; wy = d.wz; wz = d.wx; xy = d.yz; xz = λ e. d.xy (sym e); yz = λ e. d.xz (sym e) }

-- a facet of a Full cell, the points of which are those of the facet and one more
full_against : (l t : List ℕ) (x : ℕ) → IsIn (Three t) (facets_of (Full l)) → IsAscending t → (i j k : ℕ) →
    AreFourVertices (point i) (point j) (point k) (point x) →
    IsIn i l → IsIn j l → IsIn k l → IsIn x l → ((e : ℕ) → IsIn e l → (x ≡ e) ⊎ IsIn e t) →
    ((e : ℕ) → IsIn e t → IsIn e l) → ¬ (IsIn x t) → IsAgainst (Full l) (point x) (Three t)
full_against l t x m a i j k d mi mj mk mx split back n = record {
  listed = m;
  ordered = a;
  t1 = point i;
  t2 = point j;
  t3 = point k;
  four = d;
  vertices = four_true (is_among i l) (is_among j l) (is_among k l) (is_among x l) (among_true i l mi)
      (among_true j l mj) (among_true k l mk) (among_true x l mx);
  into = into;
  apart = n;
  rest = rest;
}
  where
    into : (v : Vertex) → IsFacetVertex (Three t) v → has_vertex (Full l) v ≡ true
    into (point e) i = among_true e l (back e i)
    into far i = absurd i

    rest : (v : Vertex) → has_vertex (Full l) v ≡ true → v ≢ point x → IsFacetVertex (Three t) v
    rest (point e) h o = elim (split e (among_from e l h)) [ inl q ↦ absurd (o (ap point (sym q))) | inr r ↦ r ]
    rest far h o = absurd (false≢true h)

-- a pair facet of an Open cell
pair_against : (l t : List ℕ) (x : ℕ) → IsIn (Two t) (facets_of (Open l)) → IsAscending t → (i j : ℕ) →
    AreFourVertices (point i) (point j) far (point x) →
    IsIn i l → IsIn j l → IsIn x l → ((e : ℕ) → IsIn e l → (x ≡ e) ⊎ IsIn e t) → ((e : ℕ) → IsIn e t → IsIn e l) →
    ¬ (IsIn x t) → IsAgainst (Open l) (point x) (Two t)
pair_against l t x m a i j d mi mj mx split back n = record {
  listed = m;
  ordered = a;
  t1 = point i;
  t2 = point j;
  t3 = far;
  four = d;
  vertices = four_true (is_among i l) (is_among j l) true (is_among x l) (among_true i l mi) (among_true j l mj) refl
      (among_true x l mx);
  into = into;
  apart = n;
  rest = rest;
}
  where
    into : (v : Vertex) → IsFacetVertex (Two t) v → has_vertex (Open l) v ≡ true
    into (point e) i = among_true e l (back e i)
    into far i = refl

    rest : (v : Vertex) → has_vertex (Open l) v ≡ true → v ≢ point x → IsFacetVertex (Two t) v
    rest (point e) h o = elim (split e (among_from e l h)) [ inl q ↦ absurd (o (ap point (sym q))) | inr r ↦ r ]
    rest far h o = tt

module _ (a b c d : ℕ) (ab : a < b) (bc : b < c) (cd : c < d) where
  -- the points of the cell
  abbrev four : List ℕ
  four = a ∷ b ∷ c ∷ d ∷ []

  -- against the first point
  full_first : IsAgainst (Full four) (point a) (Three (b ∷ c ∷ d ∷ []))
  full_first =
      full_against four (b ∷ c ∷ d ∷ []) a (inl refl) (bc, (cd, (tt, tt))) b c d
      (last_first (four_points a b c d ab bc cd))
      (inr (inl refl)) (inr (inr (inl refl))) (inr (inr (inr (inl refl)))) (inl refl)
      (λ e m. m) (λ e m. inr m) (λ m. omega arith)

  -- against the second
  full_second : IsAgainst (Full four) (point b) (Three (a ∷ c ∷ d ∷ []))
  full_second =
      full_against four (a ∷ c ∷ d ∷ []) b (inr (inl refl)) (omega arith, (cd, (tt, tt))) a c d
      (last_second (four_points a b c d ab bc cd))
      (inl refl) (inr (inr (inl refl))) (inr (inr (inr (inl refl)))) (inr (inl refl))
      (λ e m. elim m [ inl q ↦ inr (inl q) | inr r ↦ elim r [ inl q ↦ inl q | inr u ↦ inr (inr u) ] ])
      (λ e m. elim m [ inl q ↦ inl q | inr r ↦ inr (inr r) ]) (λ m. omega arith)

  -- against the third
  full_third : IsAgainst (Full four) (point c) (Three (a ∷ b ∷ d ∷ []))
  full_third =
      full_against four (a ∷ b ∷ d ∷ []) c (inr (inr (inl refl))) (ab, (omega arith, (tt, tt))) a b d
      (swap34 (four_points a b c d ab bc cd))
      (inl refl) (inr (inl refl)) (inr (inr (inr (inl refl)))) (inr (inr (inl refl)))
      (λ e m. elim m [
        | inl q ↦ inr (inl q)
        | inr r ↦ elim r [ inl q ↦ inr (inr (inl q)) | inr u ↦ elim u [ inl q ↦ inl q | inr v ↦ inr (inr (inr v)) ] ]
      ])
      (λ e m. elim m [
        | inl q ↦ inl q
        | inr r ↦ elim r [ inl q ↦ inr (inl q) | inr u ↦ inr (inr (inr u)) ]
      ]) (λ m. omega arith)

  -- against the fourth
  full_fourth : IsAgainst (Full four) (point d) (Three (a ∷ b ∷ c ∷ []))
  full_fourth =
      full_against four (a ∷ b ∷ c ∷ []) d (inr (inr (inr (inl refl)))) (ab, (bc, (tt, tt))) a b c
      (four_points a b c d ab bc cd)
      (inl refl) (inr (inl refl)) (inr (inr (inl refl))) (inr (inr (inr (inl refl))))
      (λ e m. elim m [
        | inl q ↦ inr (inl q)
        | inr r ↦ elim r [
          | inl q ↦ inr (inr (inl q))
          | inr u ↦ elim u [
            | inl q ↦ inr (inr (inr (inl q)))
            | inr v ↦ elim v [ inl q ↦ inl q | inr none ↦ absurd none ]
          ]
        ]
      ])
      (λ e m. elim m [
        | inl q ↦ inl q
        | inr r ↦ elim r [ inl q ↦ inr (inl q) | inr u ↦ elim u [ inl q ↦ inr (inr (inl q)) | inr none ↦ absurd none ] ]
      ]) (λ m. omega arith)

module _ (a b c : ℕ) (ab : a < b) (bc : b < c) where
  -- the points of the cell
  abbrev three : List ℕ
  three = a ∷ b ∷ c ∷ []

  -- against the first point
  open_first : IsAgainst (Open three) (point a) (Two (b ∷ c ∷ []))
  open_first = pair_against three (b ∷ c ∷ []) a (inl refl) (bc, (tt, tt)) b c (last_first (three_points a b c ab bc))
      (inr (inl refl)) (inr (inr (inl refl))) (inl refl)
      (λ e m. m) (λ e m. inr m) (λ m. omega arith)

  -- against the second
  open_second : IsAgainst (Open three) (point b) (Two (a ∷ c ∷ []))
  open_second =
      pair_against three (a ∷ c ∷ []) b (inr (inl refl)) (omega arith, (tt, tt)) a c
      (last_second (three_points a b c ab bc))
      (inl refl) (inr (inr (inl refl))) (inr (inl refl))
      (λ e m. elim m [ inl q ↦ inr (inl q) | inr r ↦ elim r [ inl q ↦ inl q | inr u ↦ inr (inr u) ] ])
      (λ e m. elim m [ inl q ↦ inl q | inr r ↦ inr (inr r) ]) (λ m. omega arith)

  -- against the third
  open_third : IsAgainst (Open three) (point c) (Two (a ∷ b ∷ []))
  open_third =
      pair_against three (a ∷ b ∷ []) c (inr (inr (inl refl))) (ab, (tt, tt)) a b (swap34 (three_points a b c ab bc))
      (inl refl) (inr (inl refl)) (inr (inr (inl refl)))
      (λ e m. elim m [
        | inl q ↦ inr (inl q)
        | inr r ↦ elim r [ inl q ↦ inr (inr (inl q)) | inr u ↦ elim u [ inl q ↦ inl q | inr none ↦ absurd none ] ]
      ])
      (λ e m. elim m [
        | inl q ↦ inl q
        | inr r ↦ elim r [ inl q ↦ inr (inl q) | inr none ↦ absurd none ]
      ]) (λ m. omega arith)

  -- against the infinite vertex
  open_far : IsAgainst (Open three) far (Three three)
  open_far = record {
    listed = inr (inr (inr (inl refl)));
    ordered = (ab, (bc, (tt, tt)));
    t1 = point a;
    t2 = point b;
    t3 = point c;
    four = three_points a b c ab bc;
    vertices = four_true (is_among a three) (is_among b three) (is_among c three) true (among_true a three (inl refl))
        (among_true b three (inr (inl refl))) (among_true c three (inr (inr (inl refl)))) refl;
    into = into;
    apart = λ m. m;
    rest = rest;
  }
    where
      into : (v : Vertex) → IsFacetVertex (Three three) v → has_vertex (Open three) v ≡ true
      into (point e) i = among_true e three i
      into far i = absurd i

      rest : (v : Vertex) → has_vertex (Open three) v ≡ true → v ≢ far → IsFacetVertex (Three three) v
      rest (point e) h o = among_from e three h
      rest far h o = absurd (o refl)

-- ---- facets and vertices

-- a facet against a vertex
pub record HasAgainst (q : Cell) (z : Vertex) : Type 0 where
  pub f : Facet
  pub against : IsAgainst q z f

-- the vertex that a facet is against
pub record AgainstSome (q : Cell) (f : Facet) : Type 0 where
  pub z : Vertex
  pub against : IsAgainst q z f

-- against the vertex under another name
moved : (q : Cell) (x z : Vertex) (f : Facet) → x ≡ z → IsAgainst q x f → IsAgainst q z f
moved q x z f e k = subst (λ v. IsAgainst q v f) e k

-- against each vertex of a cell there is a facet
pub facet_against : (q : Cell) → IsOrdered q → (z : Vertex) → has_vertex q z ≡ true → HasAgainst q z
facet_against (Full (a ∷ b ∷ c ∷ d ∷ [])) o (point e) h = elim (among_from e (a ∷ b ∷ c ∷ d ∷ []) h) [
  | inl p ↦ record {
    f = Three (b ∷ c ∷ d ∷ []);
    against = moved (Full (a ∷ b ∷ c ∷ d ∷ [])) (point a) (point e)
        (Three (b ∷ c ∷ d ∷ [])) (ap point p) (full_first a b c d o.0 o.1 o.2);
  }
  | inr r ↦ elim r [
    | inl p ↦ record {
      f = Three (a ∷ c ∷ d ∷ []);
      against = moved (Full (a ∷ b ∷ c ∷ d ∷ [])) (point b) (point e)
          (Three (a ∷ c ∷ d ∷ [])) (ap point p) (full_second a b c d o.0 o.1 o.2);
    }
    | inr u ↦ elim u [
      | inl p ↦ record {
        f = Three (a ∷ b ∷ d ∷ []);
        against = moved (Full (a ∷ b ∷ c ∷ d ∷ [])) (point c) (point e)
            (Three (a ∷ b ∷ d ∷ [])) (ap point p) (full_third a b c d o.0 o.1 o.2);
      }
      | inr t ↦ elim t [
        | inl p ↦ record {
          f = Three (a ∷ b ∷ c ∷ []);
          against = moved (Full (a ∷ b ∷ c ∷ d ∷ [])) (point d) (point e)
              (Three (a ∷ b ∷ c ∷ [])) (ap point p) (full_fourth a b c d o.0 o.1 o.2);
        }
        | inr none ↦ absurd none
      ]
    ]
  ]
]
facet_against (Full (a ∷ b ∷ c ∷ d ∷ [])) o far h = absurd (false≢true h)
facet_against (Open (a ∷ b ∷ c ∷ [])) o (point e) h = elim (among_from e (a ∷ b ∷ c ∷ []) h) [
  | inl p ↦ record {
    f = Two (b ∷ c ∷ []);
    against = moved (Open (a ∷ b ∷ c ∷ [])) (point a) (point e)
        (Two (b ∷ c ∷ [])) (ap point p) (open_first a b c o.0 o.1);
  }
  | inr r ↦ elim r [
    | inl p ↦ record {
      f = Two (a ∷ c ∷ []);
      against = moved (Open (a ∷ b ∷ c ∷ [])) (point b) (point e)
          (Two (a ∷ c ∷ [])) (ap point p) (open_second a b c o.0 o.1);
    }
    | inr u ↦ elim u [
      | inl p ↦ record {
        f = Two (a ∷ b ∷ []);
        against = moved (Open (a ∷ b ∷ c ∷ [])) (point c) (point e)
            (Two (a ∷ b ∷ [])) (ap point p) (open_third a b c o.0 o.1);
      }
      | inr none ↦ absurd none
    ]
  ]
]
facet_against (Open (a ∷ b ∷ c ∷ [])) o far h = record { f = Three (a ∷ b ∷ c ∷ []); against = open_far a b c o.0 o.1 }
facet_against q o z h = absurd o

-- each facet is against a vertex
pub against_of : (q : Cell) → IsOrdered q → (f : Facet) → IsIn f (facets_of q) → AgainstSome q f
against_of (Full (a ∷ b ∷ c ∷ d ∷ [])) o f m = elim m [
  | inl p ↦ named (Three (b ∷ c ∷ d ∷ [])) p (record { z = point a; against = full_first a b c d o.0 o.1 o.2 })
  | inr r ↦ elim r [
    | inl p ↦ named (Three (a ∷ c ∷ d ∷ [])) p (record { z = point b; against = full_second a b c d o.0 o.1 o.2 })
    | inr u ↦ elim u [
      | inl p ↦ named (Three (a ∷ b ∷ d ∷ [])) p (record { z = point c; against = full_third a b c d o.0 o.1 o.2 })
      | inr t ↦ elim t [
        | inl p ↦ named (Three (a ∷ b ∷ c ∷ [])) p (record { z = point d; against = full_fourth a b c d o.0 o.1 o.2 })
        | inr none ↦ absurd none
      ]
    ]
  ]
]
  where
    named : (g : Facet) → g ≡ f → AgainstSome (Full (a ∷ b ∷ c ∷ d ∷ [])) g → AgainstSome (Full (a ∷ b ∷ c ∷ d ∷ [])) f
    named g e k = subst (AgainstSome (Full (a ∷ b ∷ c ∷ d ∷ []))) e k
against_of (Open (a ∷ b ∷ c ∷ [])) o f m = elim m [
  | inl p ↦ named (Two (b ∷ c ∷ [])) p (record { z = point a; against = open_first a b c o.0 o.1 })
  | inr r ↦ elim r [
    | inl p ↦ named (Two (a ∷ c ∷ [])) p (record { z = point b; against = open_second a b c o.0 o.1 })
    | inr u ↦ elim u [
      | inl p ↦ named (Two (a ∷ b ∷ [])) p (record { z = point c; against = open_third a b c o.0 o.1 })
      | inr t ↦ elim t [
        | inl p ↦ named (Three (a ∷ b ∷ c ∷ [])) p (record { z = far; against = open_far a b c o.0 o.1 })
        | inr none ↦ absurd none
      ]
    ]
  ]
]
  where
    named : (g : Facet) → g ≡ f → AgainstSome (Open (a ∷ b ∷ c ∷ [])) g → AgainstSome (Open (a ∷ b ∷ c ∷ [])) f
    named g e k = subst (AgainstSome (Open (a ∷ b ∷ c ∷ []))) e k
against_of q o f m = absurd o

-- facets with their points in order and the same vertices are one
pub same_facet : (f g : Facet) → IsOrderedFacet f → IsOrderedFacet g →
    ((v : Vertex) → IsFacetVertex f v → IsFacetVertex g v) → ((v : Vertex) → IsFacetVertex g v → IsFacetVertex f v) →
    f ≡ g
same_facet (Three t) (Three u) o p k m = ap Three (same_members t u o p (λ e. k (point e)) (λ e. m (point e)))
same_facet (Two t) (Two u) o p k m = ap Two (same_members t u o p (λ e. k (point e)) (λ e. m (point e)))
same_facet (Three t) (Two u) o p k m = absurd (m far tt)
same_facet (Two t) (Three u) o p k m = absurd (k far tt)

-- a vertex of the facet against x is one of the three other vertices
pub facet_into : (q : Cell) → IsOrdered q → (t1 t2 t3 x : Vertex) → AreFourVertices t1 t2 t3 x →
    has_vertices q t1 t2 t3 x ≡ true → (f : Facet) → IsAgainst q x f → (v : Vertex) → IsFacetVertex f v →
    IsIn v (t1 ∷ t2 ∷ t3 ∷ [])
facet_into q o t1 t2 t3 x d h f k v m = elim (all_vertices q o t1 t2 t3 x d h v (k.into v m)) [
  | inl e ↦ inl e
  | inr r ↦ elim r [
    | inl e ↦ inr (inl e)
    | inr u ↦ elim u [
      | inl e ↦ inr (inr (inl e))
      | inr w ↦ elim w [ inl e ↦ absurd (k.apart (subst (IsFacetVertex f) (sym e) m)) | inr none ↦ absurd none ]
    ]
  ]
]

-- and each of the three is
pub facet_from : (q : Cell) → (t1 t2 t3 x : Vertex) → AreFourVertices t1 t2 t3 x → has_vertices q t1 t2 t3 x ≡ true →
    (f : Facet) → IsAgainst q x f → (v : Vertex) → IsIn v (t1 ∷ t2 ∷ t3 ∷ []) → IsFacetVertex f v
facet_from q t1 t2 t3 x d h f k v m =
    let a = four_is (has_vertex q t1) (has_vertex q t2) (has_vertex q t3) (has_vertex q x) h in
    elim m [
      | inl e ↦ subst (IsFacetVertex f) e (k.rest t1 a.0 d.wz)
      | inr r ↦ elim r [
        | inl e ↦ subst (IsFacetVertex f) e (k.rest t2 a.1 d.xz)
        | inr u ↦ elim u [ inl e ↦ subst (IsFacetVertex f) e (k.rest t3 a.2 d.yz) | inr none ↦ absurd none ]
      ]
    ]

-- two cells with three vertices in common have the facet of these in common
pub shared_facet : (q r : Cell) → IsOrdered q → IsOrdered r → (t1 t2 t3 x y : Vertex) → AreFourVertices t1 t2 t3 x →
    AreFourVertices t1 t2 t3 y → has_vertices q t1 t2 t3 x ≡ true → has_vertices r t1 t2 t3 y ≡ true → (f g : Facet) →
    IsAgainst q x f → IsAgainst r y g → f ≡ g
shared_facet q r o p t1 t2 t3 x y d e h k f g a b =
    same_facet f g a.ordered b.ordered
    (λ v m. facet_from r t1 t2 t3 y e k g b v (facet_into q o t1 t2 t3 x d h f a v m))
    (λ v m. facet_from q t1 t2 t3 x d h f a v (facet_into r p t1 t2 t3 y e k g b v m))

-- ---- the cell of a facet and a point

-- an ascending list with p is p put in its place among the others
in_place : (l t : List ℕ) (p : ℕ) → IsAscending l → IsIn p l → ((e : ℕ) → IsIn e t → IsIn e l) →
    ((e : ℕ) → IsIn e l → ¬ (e ≡ p) → IsIn e t) → l ≡ ascending (p ∷ t)
in_place l t p o m k n = ascending_is l (p ∷ t) o
    (λ e i. elim (cases_eq e p) [ inl q ↦ inl (sym q) | inr o ↦ inr (n e i o) ])
    (λ e i. elim i [ inl q ↦ subst (λ v. IsIn v l) q m | inr r ↦ k e r ])

-- the points of an ordered Full cell, or of an Open one, are ascending
full_ascending : (l : List ℕ) → IsOrdered (Full l) → IsAscending l
full_ascending (a ∷ b ∷ c ∷ d ∷ []) o = (o.0, (o.1, (o.2, (tt, tt))))
full_ascending l o = absurd o

-- the points of an ordered Open cell are ascending
open_ascending : (l : List ℕ) → IsOrdered (Open l) → IsAscending l
open_ascending (a ∷ b ∷ c ∷ []) o = (o.0, (o.1, (tt, tt)))
open_ascending l o = absurd o

-- a cell with the point p is the cell of p and the facet against it
pub over_facet : (q : Cell) → IsOrdered q → (p : ℕ) → has_vertex q (point p) ≡ true → (f : Facet) →
    IsAgainst q (point p) f → q ≡ cell_over f p
over_facet (Full l) o p h (Three t) k =
    ap Full (in_place l t p (full_ascending l o) (among_from p l h) (λ e m. among_from e l (k.into (point e) m))
    (λ e m n. k.rest (point e) (among_true e l m) (λ q. n (same_point e p q))))
over_facet (Open l) o p h (Two t) k =
    ap Open (in_place l t p (open_ascending l o) (among_from p l h) (λ e m. among_from e l (k.into (point e) m))
    (λ e m n. k.rest (point e) (among_true e l m) (λ q. n (same_point e p q))))
over_facet (Full l) o p h (Two t) k = absurd (false≢true (k.into far tt))
over_facet (Open l) o p h (Three t) k = absurd (k.rest far refl (λ e. point_finite p (sym e)))
