-- Numbers of points, and what stays of them where points are put behind others.
use Rattle.std.specs.Prelude.{◌≡◌, refl, ℕ, ◌<◌, List, [], ◌∷◌, ◌++◌, length, map, zero, suc}
use Rattle.std.proofs.Common.{arith, ap₂, inl, inr, sym, subst, ◌∙◌}
use Rattle.std.proofs.lemmas.List.{length-append, map-append}
use Rattle.list_laws.proofs.Cited.{from_append}
use Rattle.cell_lists.specs.declared.known.Row.{Row}
use Rattle.cell_lists.specs.Rows.{AreMore, AreRows, IsRow, corners_of, known_at}

-- a point keeps its number
known_stays : (points more : List ℕ) (i : ℕ) → i < length points → known_at (points ++ more) i ≡ known_at points i
known_stays [] more i h = absurd (omega (arith, h))
known_stays (p ∷ points) more zero h = refl
known_stays (p ∷ points) more (suc i) h = known_stays points more i (omega (arith, h))

-- and it is within still
within_stays : (points more : List ℕ) (i : ℕ) → i < length points → i < length (points ++ more)
within_stays points more i h = let n = length-append points more in omega (arith, n, h)

-- so a row keeps its points
corners_stay : (points more : List ℕ) (r : Row) → IsRow points r → corners_of (points ++ more) r ≡ corners_of points r
corners_stay points more r k =
    rw (
      known_stays points more r.a k.a,
      known_stays points more r.b k.b,
      known_stays points more r.c k.c,
      known_stays points more r.d k.d,
    )
    refl

-- and is one of points in ascending order still
row_stays : (points more : List ℕ) (r : Row) → IsRow points r → IsRow (points ++ more) r
row_stays points more r k = record {
  a = within_stays points more r.a k.a;
  b = within_stays points more r.b k.b;
  c = within_stays points more r.c k.c;
  d = within_stays points more r.d k.d;
  first = rw (known_stays points more r.a k.a, known_stays points more r.b k.b) k.first;
  second = rw (known_stays points more r.b k.b, known_stays points more r.c k.c) k.second;
  third = rw (known_stays points more r.c k.c, known_stays points more r.d k.d) k.third;
}

-- so is each
pub rows_stay : (points after : List ℕ) (rows : List Row) → AreMore points after → AreRows points rows →
    AreRows after rows
rows_stay points after rows m k r i =
    subst (λ (v : List ℕ). IsRow v r) (sym m.1) (row_stays points m.0 r (k r i))

-- and the cells are the same
pub cells_stay : (points after : List ℕ) (rows : List Row) → AreMore points after → AreRows points rows →
    map (corners_of after) rows ≡ map (corners_of points) rows
cells_stay points after [] m k = refl
cells_stay points after (r ∷ rows) m k =
    ap₂ (λ (q : List ℕ) (l : List (List ℕ)). q ∷ l)
    (subst (λ (v : List ℕ). corners_of v r ≡ corners_of points r) (sym m.1)
    (corners_stay points m.0 r (k r (inl refl))))
    (cells_stay points after rows m (λ o i. k o (inr i)))

-- one row more
pub row_more : (points : List ℕ) (rows : List Row) (r : Row) → AreRows points rows → IsRow points r →
    AreRows points (rows ++ r ∷ [])
row_more points rows r k n o i = elim (from_append o rows (r ∷ []) i) [
  | inl j ↦ k o j
  | inr j ↦ elim j [ inl e ↦ subst (λ (v : Row). IsRow points v) e n | inr none ↦ absurd none ]
]

-- and its cell behind the others
pub cell_more : (points after : List ℕ) (rows : List Row) (r : Row) (q : List ℕ) → AreMore points after →
    AreRows points rows → corners_of after r ≡ q →
    map (corners_of after) (rows ++ r ∷ []) ≡ map (corners_of points) rows ++ q ∷ []
cell_more points after rows r q m k e =
    map-append (corners_of after) rows (r ∷ [])
    ∙ ap₂ (λ (l : List (List ℕ)) (v : List ℕ). l ++ v ∷ []) (cells_stay points after rows m k) e
