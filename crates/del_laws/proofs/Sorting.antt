-- The cell of four vertices, with its points put in order, is listed.
use Rattle.std.specs.Prelude.{◌≡◌, refl, ℕ, ◌<◌, true, List, [], ◌∷◌, ◌⊎◌}
use Rattle.std.proofs.Common.{arith, inl, inr, ap, sym, subst, ◌∙◌}
use Rattle.point_order.specs.declared.cell.Cell.{Cell}
use Rattle.point_order.specs.declared.cell.Cell.TheVariants.{Full, Open}
use Rattle.point_order.specs.Heights.{height}
use Rattle.point_order.specs.Sets.{IsIn, IsAscending, ascending}
use Rattle.point_order.specs.Complex.{complex}
use Rattle.point_order.proofs.Cited.{ascending_ascending, ascending_is, ascending_self, in_ascending, in_ascending_from}
use Rattle.del_laws.specs.Cells.{Vertex, point, far, Held}
use Rattle.del_laws.specs.Keys.{AreKeys}
use Rattle.del_laws.specs.Vertices.{is_cell}
use Rattle.del_laws.specs.Listed.{cell_of, TestIsListed}
use Rattle.del_laws.proofs.Orders.{swap12, swap23, swap34}
use Rattle.del_laws.proofs.Bools.{cell_true, cell_from}
use Rattle.del_laws.proofs.BaseFacts.{no_twice}
use Rattle.del_laws.proofs.Listed.{cell_is_listed}

-- ---- the test does not depend on the order

-- the first two exchanged
pub turn12 : (s : List ℕ) → AreKeys s → (w x y z : Vertex) → is_cell s w x y z ≡ true → is_cell s x w y z ≡ true
turn12 s k w x y z e = cell_true s k x w y z (swap12 height s w x y z (cell_from s w x y z e))

-- the middle two
pub turn23 : (s : List ℕ) → AreKeys s → (w x y z : Vertex) → is_cell s w x y z ≡ true → is_cell s w y x z ≡ true
turn23 s k w x y z e = cell_true s k w y x z (swap23 height s w x y z (cell_from s w x y z e))

-- the last two
pub turn34 : (s : List ℕ) → AreKeys s → (w x y z : Vertex) → is_cell s w x y z ≡ true → is_cell s w x z y ≡ true
turn34 s k w x y z e = cell_true s k w x z y (swap34 height s w x y z (cell_from s w x y z e))

-- the first brought to the end
pub rotate1 : (s : List ℕ) → AreKeys s → (w x y z : Vertex) → is_cell s w x y z ≡ true → is_cell s x y z w ≡ true
rotate1 s k w x y z e = turn34 s k x y w z (turn23 s k x w y z (turn12 s k w x y z e))

-- the second
pub rotate2 : (s : List ℕ) → AreKeys s → (w x y z : Vertex) → is_cell s w x y z ≡ true → is_cell s w y z x ≡ true
rotate2 s k w x y z e = turn34 s k w y x z (turn23 s k w x y z e)

-- no vertex is there twice
pub apart34 : (s : List ℕ) (w x y z : Vertex) → is_cell s w x y z ≡ true → ¬ (y ≡ z)
apart34 s w x y z e q = no_twice s w x z (subst (λ v. Held height s w x v z) q (cell_from s w x y z e))

-- nor at any other two places
pub apart23 : (s : List ℕ) → AreKeys s → (w x y z : Vertex) → is_cell s w x y z ≡ true → ¬ (x ≡ y)
apart23 s k w x y z e q = apart34 s z w x y (turn12 s k w z x y (turn23 s k w x z y (turn34 s k w x y z e))) q

-- the first and the second
pub apart12 : (s : List ℕ) → AreKeys s → (w x y z : Vertex) → is_cell s w x y z ≡ true → ¬ (w ≡ x)
apart12 s k w x y z e q = apart23 s k y w x z (turn12 s k w y x z (turn23 s k w x y z e)) q

-- the first and the last
pub apart14 : (s : List ℕ) → AreKeys s → (w x y z : Vertex) → is_cell s w x y z ≡ true → ¬ (w ≡ z)
apart14 s k w x y z e q = apart34 s x y w z (turn23 s k x w y z (turn12 s k w x y z e)) q

-- the second and the last
pub apart24 : (s : List ℕ) → AreKeys s → (w x y z : Vertex) → is_cell s w x y z ≡ true → ¬ (x ≡ z)
apart24 s k w x y z e q = apart34 s w y x z (turn23 s k w x y z e) q

-- ---- nor does the cell

-- lists with the same members have one order
pub same_order : (l m : List ℕ) → ((p : ℕ) → IsIn p l → IsIn p m) → ((p : ℕ) → IsIn p m → IsIn p l) →
    ascending l ≡ ascending m
same_order l m f g =
    ascending_is (ascending l) m (ascending_ascending l) (λ p i. f p (in_ascending l p i))
    (λ p i. in_ascending_from l p (g p i))

-- the first two exchanged
first_two : (a b : ℕ) (l : List ℕ) (p : ℕ) → IsIn p (a ∷ b ∷ l) → IsIn p (b ∷ a ∷ l)
first_two a b l p m = elim m [ inl q ↦ inr (inl q) | inr r ↦ elim r [ inl q ↦ inl q | inr u ↦ inr (inr u) ] ]

-- the same after one more
later_two : (c a b : ℕ) (l : List ℕ) (p : ℕ) → IsIn p (c ∷ a ∷ b ∷ l) → IsIn p (c ∷ b ∷ a ∷ l)
later_two c a b l p m = elim m [ inl q ↦ inl q | inr r ↦ inr (first_two a b l p r) ]

-- the same after two more
last_two : (c d a b : ℕ) (l : List ℕ) (p : ℕ) → IsIn p (c ∷ d ∷ a ∷ b ∷ l) → IsIn p (c ∷ d ∷ b ∷ a ∷ l)
last_two c d a b l p m = elim m [ inl q ↦ inl q | inr r ↦ inr (later_two d a b l p r) ]

-- one order of two
order12 : (a b : ℕ) (l : List ℕ) → ascending (a ∷ b ∷ l) ≡ ascending (b ∷ a ∷ l)
order12 a b l = same_order (a ∷ b ∷ l) (b ∷ a ∷ l) (first_two a b l) (first_two b a l)

-- of the second and third
order23 : (c a b : ℕ) (l : List ℕ) → ascending (c ∷ a ∷ b ∷ l) ≡ ascending (c ∷ b ∷ a ∷ l)
order23 c a b l = same_order (c ∷ a ∷ b ∷ l) (c ∷ b ∷ a ∷ l) (later_two c a b l) (later_two c b a l)

-- of the third and fourth
order34 : (c d a b : ℕ) (l : List ℕ) → ascending (c ∷ d ∷ a ∷ b ∷ l) ≡ ascending (c ∷ d ∷ b ∷ a ∷ l)
order34 c d a b l = same_order (c ∷ d ∷ a ∷ b ∷ l) (c ∷ d ∷ b ∷ a ∷ l) (last_two c d a b l) (last_two c d b a l)

-- the first two vertices of a cell exchanged
pub cell_of_swap12 : (w x y z : Vertex) → cell_of w x y z ≡ cell_of x w y z
cell_of_swap12 (point a) (point b) (point c) (point d) = ap Full (order12 a b (c ∷ d ∷ []))
cell_of_swap12 (point a) (point b) (point c) far = ap Open (order12 a b (c ∷ []))
cell_of_swap12 (point a) (point b) far (point d) = ap Open (order12 a b (d ∷ []))
cell_of_swap12 (point a) (point b) far far = refl
cell_of_swap12 (point a) far (point c) (point d) = refl
cell_of_swap12 (point a) far (point c) far = refl
cell_of_swap12 (point a) far far z = refl
cell_of_swap12 far (point b) (point c) (point d) = refl
cell_of_swap12 far (point b) (point c) far = refl
cell_of_swap12 far (point b) far z = refl
cell_of_swap12 far far y z = refl

-- the middle two
pub cell_of_swap23 : (w x y z : Vertex) → cell_of w x y z ≡ cell_of w y x z
cell_of_swap23 (point a) (point b) (point c) (point d) = ap Full (order23 a b c (d ∷ []))
cell_of_swap23 (point a) (point b) (point c) far = ap Open (order23 a b c [])
cell_of_swap23 (point a) (point b) far (point d) = refl
cell_of_swap23 (point a) (point b) far far = refl
cell_of_swap23 (point a) far (point c) (point d) = refl
cell_of_swap23 (point a) far (point c) far = refl
cell_of_swap23 (point a) far far z = refl
cell_of_swap23 far (point b) (point c) (point d) = ap Open (order12 b c (d ∷ []))
cell_of_swap23 far (point b) (point c) far = refl
cell_of_swap23 far (point b) far z = refl
cell_of_swap23 far far (point c) z = refl
cell_of_swap23 far far far z = refl

-- the last two
pub cell_of_swap34 : (w x y z : Vertex) → cell_of w x y z ≡ cell_of w x z y
cell_of_swap34 (point a) (point b) (point c) (point d) = ap Full (order34 a b c d [])
cell_of_swap34 (point a) (point b) (point c) far = refl
cell_of_swap34 (point a) (point b) far (point d) = refl
cell_of_swap34 (point a) (point b) far far = refl
cell_of_swap34 (point a) far (point c) (point d) = ap Open (order23 a c d [])
cell_of_swap34 (point a) far (point c) far = refl
cell_of_swap34 (point a) far far (point d) = refl
cell_of_swap34 (point a) far far far = refl
cell_of_swap34 far (point b) (point c) (point d) = ap Open (order23 b c d [])
cell_of_swap34 far (point b) (point c) far = refl
cell_of_swap34 far (point b) far (point d) = refl
cell_of_swap34 far (point b) far far = refl
cell_of_swap34 far far (point c) (point d) = refl
cell_of_swap34 far far (point c) far = refl
cell_of_swap34 far far far (point d) = refl
cell_of_swap34 far far far far = refl

-- ---- put in order

-- two numbers that differ
pub data Compared (m n : ℕ) : Type 0 where
  less : m < n → Compared m n
  more : n < m → Compared m n

-- one is the lesser
pub compared : (m n : ℕ) → ¬ (m ≡ n) → Compared m n
compared m n d = by_order (cases m n)
  where
    -- the three orders
    cases : (m n : ℕ) → (m < n) ⊎ ((m ≡ n) ⊎ (n < m))
    cases m n = grind arith

    -- without the second
    by_order : (m < n) ⊎ ((m ≡ n) ⊎ (n < m)) → Compared m n
    by_order t = elim t [ inl l ↦ less l | inr r ↦ elim r [ inl e ↦ absurd (d e) | inr l ↦ more l ] ]

-- four points in order that are a cell, and of which E holds
pub record IsSorted4 (s : List ℕ) (E : ℕ → ℕ → ℕ → ℕ → Type 0) : Type 0 where
  pub a : ℕ
  pub b : ℕ
  pub c : ℕ
  pub d : ℕ
  pub first : a < b
  pub second : b < c
  pub third : c < d
  pub test : is_cell s (point a) (point b) (point c) (point d) ≡ true
  pub holds : E a b c d

-- three points in order that are a cell, and of which E holds
pub record IsSorted3 (s : List ℕ) (E : ℕ → ℕ → ℕ → Type 0) : Type 0 where
  pub a : ℕ
  pub b : ℕ
  pub c : ℕ
  pub first : a < b
  pub second : b < c
  pub test : is_cell s (point a) (point b) (point c) far ≡ true
  pub holds : E a b c

-- whether four points are a cell
abbrev full_test : List ℕ → ℕ → ℕ → ℕ → ℕ → Type 0
full_test s w x y z = is_cell s (point w) (point x) (point y) (point z) ≡ true

module _ (s : List ℕ) (k : AreKeys s) (E : ℕ → ℕ → ℕ → ℕ → Type 0)
    (e12 : (w x y z : ℕ) → full_test s w x y z → E w x y z → E x w y z)
    (e23 : (w x y z : ℕ) → full_test s w x y z → E w x y z → E w y x z)
    (e34 : (w x y z : ℕ) → full_test s w x y z → E w x y z → E w x z y) where
  -- four points that pass, and of which E holds
  abbrev Of : ℕ → ℕ → ℕ → ℕ → Type 0
  Of w x y z = (is_cell s (point w) (point x) (point y) (point z) ≡ true) × E w x y z

  -- the first two exchanged
  of12 : (w x y z : ℕ) → Of w x y z → Of x w y z
  of12 w x y z t = (turn12 s k (point w) (point x) (point y) (point z) t.0, e12 w x y z t.0 t.1)

  -- the middle two
  of23 : (w x y z : ℕ) → Of w x y z → Of w y x z
  of23 w x y z t = (turn23 s k (point w) (point x) (point y) (point z) t.0, e23 w x y z t.0 t.1)

  -- the last two
  of34 : (w x y z : ℕ) → Of w x y z → Of w x z y
  of34 w x y z t = (turn34 s k (point w) (point x) (point y) (point z) t.0, e34 w x y z t.0 t.1)

  -- in order
  sorted4 : (w x y z : ℕ) → w < x → x < y → y < z → Of w x y z → IsSorted4 s E
  sorted4 w x y z l m n t =
      record { a = w; b = x; c = y; d = z; first = l; second = m; third = n; test = t.0; holds = t.1 }

  -- the first put among three in order
  put3 : (w x y z : ℕ) → x < y → y < z → Of w x y z → IsSorted4 s E
  put3 w x y z l m t = elim (compared w x (λ e. apart12 s k (point w) (point x) (point y) (point z) t.0 (ap point e))) [
    | less i ↦ sorted4 w x y z i l m t
    | more i ↦ (
        let t2 = of12 w x y z t in
        elim (compared w y (λ e. apart23 s k (point x) (point w) (point y) (point z) t2.0 (ap point e))) [
          | less j ↦ sorted4 x w y z i j m t2
          | more j ↦ (
              let t3 = of23 x w y z t2 in
              elim (compared w z (λ e. apart34 s (point x) (point y) (point w) (point z) t3.0 (ap point e))) [
                | less n ↦ sorted4 x y w z l j n t3
                | more n ↦ sorted4 x y z w l m n (of34 x y w z t3)
              ])
        ])
  ]

  -- the second put among two in order
  put2 : (w x y z : ℕ) → y < z → Of w x y z → IsSorted4 s E
  put2 w x y z m t = elim (compared x y (λ e. apart23 s k (point w) (point x) (point y) (point z) t.0 (ap point e))) [
    | less i ↦ put3 w x y z i m t
    | more i ↦ (
        let t2 = of23 w x y z t in
        elim (compared x z (λ e. apart34 s (point w) (point y) (point x) (point z) t2.0 (ap point e))) [
          | less j ↦ put3 w y x z i j t2
          | more j ↦ put3 w y z x m j (of34 w y x z t2)
        ])
  ]

  -- any four
  pub sort4 : (w x y z : ℕ) → Of w x y z → IsSorted4 s E
  sort4 w x y z t = elim (compared y z (λ e. apart34 s (point w) (point x) (point y) (point z) t.0 (ap point e))) [
    | less i ↦ put2 w x y z i t
    | more i ↦ put2 w x z y i (of34 w x y z t)
  ]

module _ (s : List ℕ) (k : AreKeys s) (E : ℕ → ℕ → ℕ → Type 0) (e12 : (x y z : ℕ) → E x y z → E y x z)
    (e23 : (x y z : ℕ) → E x y z → E x z y) where
  -- three points that pass, and of which E holds
  abbrev Of3 : ℕ → ℕ → ℕ → Type 0
  Of3 x y z = (is_cell s (point x) (point y) (point z) far ≡ true) × E x y z

  -- in order
  sorted3 : (x y z : ℕ) → x < y → y < z → Of3 x y z → IsSorted3 s E
  sorted3 x y z l m t = record { a = x; b = y; c = z; first = l; second = m; test = t.0; holds = t.1 }

  -- the first two exchanged
  three12 : (x y z : ℕ) → Of3 x y z → Of3 y x z
  three12 x y z t = (turn12 s k (point x) (point y) (point z) far t.0, e12 x y z t.1)

  -- the last two
  three23 : (x y z : ℕ) → Of3 x y z → Of3 x z y
  three23 x y z t = (turn23 s k (point x) (point y) (point z) far t.0, e23 x y z t.1)

  -- the first put among two in order
  put_first : (x y z : ℕ) → y < z → Of3 x y z → IsSorted3 s E
  put_first x y z m t = elim (compared x y (λ e. apart12 s k (point x) (point y) (point z) far t.0 (ap point e))) [
    | less i ↦ sorted3 x y z i m t
    | more i ↦ (
        let t2 = three12 x y z t in
        elim (compared x z (λ e. apart23 s k (point y) (point x) (point z) far t2.0 (ap point e))) [
          | less j ↦ sorted3 y x z i j t2
          | more j ↦ sorted3 y z x m j (three23 y x z t2)
        ])
  ]

  -- any three
  pub sort3 : (x y z : ℕ) → Of3 x y z → IsSorted3 s E
  sort3 x y z t = elim (compared y z (λ e. apart23 s k (point x) (point y) (point z) far t.0 (ap point e))) [
    | less i ↦ put_first x y z i t
    | more i ↦ put_first x z y i (three23 x y z t)
  ]

-- ---- the listed cell

-- c is the cell of four points
abbrev pub IsFullOf : Cell → ℕ → ℕ → ℕ → ℕ → Type 0
IsFullOf c w x y z = c ≡ cell_of (point w) (point x) (point y) (point z)

-- c is the cell of three points
abbrev pub IsOpenOf : Cell → ℕ → ℕ → ℕ → Type 0
IsOpenOf c x y z = c ≡ cell_of (point x) (point y) (point z) far

-- in order it is listed
listed4 : (s : List ℕ) (a : IsAscending s) (c : Cell) → IsSorted4 s (IsFullOf c) → IsIn c (complex s)
listed4 s a c r =
    subst (λ v. IsIn v (complex s)) (sym (r.holds ∙ ap Full (ascending_self (r.a ∷ r.b ∷ r.c ∷ r.d ∷ [])
    (r.first, (r.second, (r.third, (tt, tt)))))))
    (cell_is_listed s (Full (r.a ∷ r.b ∷ r.c ∷ r.d ∷ [])) a (record {
      a = r.a;
      b = r.b;
      c = r.c;
      d = r.d;
      is = refl;
      first = r.first;
      second = r.second;
      third = r.third;
      test = r.test;
    }))

-- and of three
listed3 : (s : List ℕ) (a : IsAscending s) (c : Cell) → IsSorted3 s (IsOpenOf c) → IsIn c (complex s)
listed3 s a c r =
    subst (λ v. IsIn v (complex s)) (sym (r.holds ∙ ap Open (ascending_self (r.a ∷ r.b ∷ r.c ∷ [])
    (r.first, (r.second, (tt, tt))))))
    (cell_is_listed s (Open (r.a ∷ r.b ∷ r.c ∷ [])) a (record {
      a = r.a;
      b = r.b;
      c = r.c;
      is = refl;
      first = r.first;
      second = r.second;
      test = r.test;
    }))

-- four points
any4 : (s : List ℕ) (a : IsAscending s) (k : AreKeys s) (c : Cell) (w x y z : ℕ) →
    is_cell s (point w) (point x) (point y) (point z) ≡ true → IsFullOf c w x y z → IsIn c (complex s)
any4 s a k c w x y z t e =
    listed4 s a c (sort4 s k (IsFullOf c)
    (λ w x y z u i. i ∙ cell_of_swap12 (point w) (point x) (point y) (point z))
    (λ w x y z u i. i ∙ cell_of_swap23 (point w) (point x) (point y) (point z))
    (λ w x y z u i. i ∙ cell_of_swap34 (point w) (point x) (point y) (point z))
    w x y z (t, e))

-- three points
any3 : (s : List ℕ) (a : IsAscending s) (k : AreKeys s) (c : Cell) (x y z : ℕ) →
    is_cell s (point x) (point y) (point z) far ≡ true → IsOpenOf c x y z → IsIn c (complex s)
any3 s a k c x y z t e =
    listed3 s a c (sort3 s k (IsOpenOf c) (λ x y z i. i ∙ cell_of_swap12 (point x) (point y) (point z) far)
    (λ x y z i. i ∙ cell_of_swap23 (point x) (point y) (point z) far) x y z (t, e))

-- the cell of four vertices that pass is listed
pub test_is_listed : TestIsListed
test_is_listed s a k (point x) (point y) (point z) (point o) t =
    any4 s a k (cell_of (point x) (point y) (point z) (point o)) x y z o t refl
test_is_listed s a k (point x) (point y) (point z) far t =
    any3 s a k (cell_of (point x) (point y) (point z) far) x y z t refl
test_is_listed s a k (point x) (point y) far (point o) t =
    any3 s a k (cell_of (point x) (point y) far (point o)) x y o t refl
test_is_listed s a k (point x) (point y) far far t = cc
test_is_listed s a k (point x) far (point z) (point o) t =
    any3 s a k (cell_of (point x) far (point z) (point o)) x z o t refl
test_is_listed s a k (point x) far (point z) far t = cc
test_is_listed s a k (point x) far far o t = cc
test_is_listed s a k far (point y) (point z) (point o) t =
    any3 s a k (cell_of far (point y) (point z) (point o)) y z o t refl
test_is_listed s a k far (point y) (point z) far t = cc
test_is_listed s a k far (point y) far o t = cc
test_is_listed s a k far far z o t = cc
