-- Cells with their points in order: by any four of its vertices such a cell is told.
use Rattle.std.specs.Prelude.{◌≡◌, ℕ, ◌<◌, ◌≤◌, Bool, true, false, List, [], ◌∷◌}
use Rattle.std.proofs.Common.{refl, sym, ap, ◌∙◌, inl, inr, arith}
use Rattle.std.proofs.lemmas.Bool.{false≢true}
use Rattle.list_laws.proofs.Cited.{among_from, and_first, and_last, and_middle, four_is}
use Rattle.point_order.specs.Sets.{IsIn, is_among}
use Rattle.point_order.specs.declared.cell.Cell.{Cell}
use Rattle.point_order.specs.declared.cell.Cell.TheVariants.{Full, Open}
use Rattle.del_laws.specs.Cells.{Vertex, point, far}
use Rattle.del_laws.specs.Base.{Symmetric}
use Rattle.hole_laws.proofs.Vertex.{has_vertex, has_vertices, IsOrdered, at_cell}
use Rattle.hole_laws.proofs.Order.{IsBefore, AreFourVertices, in_any_order}

-- ---- tests of four

-- the test of four vertices does not depend on their order
pub vertices_symmetric : (q : Cell) → Symmetric (has_vertices q)
vertices_symmetric q = record {
  first = λ w x y z. and_first (has_vertex q w) (has_vertex q x) (has_vertex q y) (has_vertex q z);
  middle = λ w x y z. and_middle (has_vertex q w) (has_vertex q x) (has_vertex q y) (has_vertex q z);
  last = λ w x y z. and_last (has_vertex q w) (has_vertex q x) (has_vertex q y) (has_vertex q z);
}

-- ---- four ascending numbers out of four ascending numbers, and three out of three

-- the second is not below the second
second_of_four : (r1 r2 a b c d : ℕ) → a < b → b < c → c < d → r1 < r2 → IsIn r1 (a ∷ b ∷ c ∷ d ∷ []) →
    IsIn r2 (a ∷ b ∷ c ∷ d ∷ []) → b ≤ r2
second_of_four r1 r2 a b c d ab bc cd l h k = omega arith

-- nor the third below the third
third_of_four : (r2 r3 a b c d : ℕ) → a < b → b < c → c < d → b ≤ r2 → r2 < r3 → IsIn r3 (a ∷ b ∷ c ∷ d ∷ []) → c ≤ r3
third_of_four r2 r3 a b c d ab bc cd h l k = omega arith

-- so the last is the last
last_of_four : (r3 r4 a b c d : ℕ) → a < b → b < c → c < d → c ≤ r3 → r3 < r4 → IsIn r4 (a ∷ b ∷ c ∷ d ∷ []) → r4 ≡ d
last_of_four r3 r4 a b c d ab bc cd h l k = omega arith

-- and the third
then_third : (r3 r4 a b c d : ℕ) → a < b → b < c → c < d → c ≤ r3 → r3 < r4 → r4 ≡ d → IsIn r3 (a ∷ b ∷ c ∷ d ∷ []) →
    r3 ≡ c
then_third r3 r4 a b c d ab bc cd h l e k = omega arith

-- the second
then_second : (r2 r3 a b c d : ℕ) → a < b → b < c → c < d → b ≤ r2 → r2 < r3 → r3 ≡ c → IsIn r2 (a ∷ b ∷ c ∷ d ∷ []) →
    r2 ≡ b
then_second r2 r3 a b c d ab bc cd h l e k = omega arith

-- and the first
then_first : (r1 r2 a b c d : ℕ) → a < b → b < c → c < d → r1 < r2 → r2 ≡ b → IsIn r1 (a ∷ b ∷ c ∷ d ∷ []) → r1 ≡ a
then_first r1 r2 a b c d ab bc cd l e k = omega arith

-- four out of four
same_four : (r1 r2 r3 r4 a b c d : ℕ) → a < b → b < c → c < d → r1 < r2 → r2 < r3 → r3 < r4 →
    IsIn r1 (a ∷ b ∷ c ∷ d ∷ []) → IsIn r2 (a ∷ b ∷ c ∷ d ∷ []) → IsIn r3 (a ∷ b ∷ c ∷ d ∷ []) →
    IsIn r4 (a ∷ b ∷ c ∷ d ∷ []) → (r1 ≡ a) × (r2 ≡ b) × (r3 ≡ c) × (r4 ≡ d)
same_four r1 r2 r3 r4 a b c d ab bc cd l m n i1 i2 i3 i4 =
    let s = second_of_four r1 r2 a b c d ab bc cd l i1 i2 in
    let t = third_of_four r2 r3 a b c d ab bc cd s m i3 in
    let e4 = last_of_four r3 r4 a b c d ab bc cd t n i4 in
    let e3 = then_third r3 r4 a b c d ab bc cd t n e4 i3 in
    let e2 = then_second r2 r3 a b c d ab bc cd s m e3 i2 in
    (then_first r1 r2 a b c d ab bc cd l e2 i1, e2, e3, e4)

-- three out of three
same_three : (r1 r2 r3 a b c : ℕ) → a < b → b < c → r1 < r2 → r2 < r3 → IsIn r1 (a ∷ b ∷ c ∷ []) →
    IsIn r2 (a ∷ b ∷ c ∷ []) → IsIn r3 (a ∷ b ∷ c ∷ []) → (r1 ≡ a) × (r2 ≡ b) × (r3 ≡ c)
same_three r1 r2 r3 a b c ab bc l m i1 i2 i3 = (omega arith, omega arith, omega arith)

-- no four out of three
not_four : (r1 r2 r3 r4 a b c : ℕ) → a < b → b < c → r1 < r2 → r2 < r3 → r3 < r4 → IsIn r1 (a ∷ b ∷ c ∷ []) →
    IsIn r2 (a ∷ b ∷ c ∷ []) → IsIn r3 (a ∷ b ∷ c ∷ []) → IsIn r4 (a ∷ b ∷ c ∷ []) → ⊥
not_four r1 r2 r3 r4 a b c ab bc l m n i1 i2 i3 i4 = omega arith

-- ---- the vertices of an ordered cell

-- they are the four, in this order
abbrev InOrder : Cell → Vertex → Vertex → Vertex → Vertex → Type 0
InOrder (Full (a ∷ b ∷ c ∷ d ∷ [])) w x y z = (w ≡ point a) × (x ≡ point b) × (y ≡ point c) × (z ≡ point d)
InOrder (Open (a ∷ b ∷ c ∷ [])) w x y z = (w ≡ point a) × (x ≡ point b) × (y ≡ point c) × (z ≡ far)
InOrder _ w x y z = ⊥

-- four vertices in order, of a Full cell
full_in_order : (a b c d : ℕ) → (a < b) × (b < c) × (c < d) → (w x y z : Vertex) → IsBefore w x → IsBefore x y →
    IsBefore y z → has_vertices (Full (a ∷ b ∷ c ∷ d ∷ [])) w x y z ≡ true → InOrder (Full (a ∷ b ∷ c ∷ d ∷ [])) w x y z
full_in_order a b c d o (point i) (point j) (point k) (point l) ij jk kl h =
    let m = four_is (is_among i (a ∷ b ∷ c ∷ d ∷ [])) (is_among j (a ∷ b ∷ c ∷ d ∷ []))
    (is_among k (a ∷ b ∷ c ∷ d ∷ [])) (is_among l (a ∷ b ∷ c ∷ d ∷ [])) h in
    let s = same_four i j k l a b c d o.0 o.1 o.2 ij jk kl (among_from i (a ∷ b ∷ c ∷ d ∷ []) m.0)
    (among_from j (a ∷ b ∷ c ∷ d ∷ []) m.1) (among_from k (a ∷ b ∷ c ∷ d ∷ []) m.2)
    (among_from l (a ∷ b ∷ c ∷ d ∷ []) m.3) in
    (ap point s.0, ap point s.1, ap point s.2, ap point s.3)
full_in_order a b c d o w x y far wx xy yz h =
    absurd (false≢true (four_is (has_vertex (Full (a ∷ b ∷ c ∷ d ∷ [])) w) (has_vertex (Full (a ∷ b ∷ c ∷ d ∷ [])) x)
    (has_vertex (Full (a ∷ b ∷ c ∷ d ∷ [])) y) false h).3)
full_in_order a b c d o far x y (point l) wx xy yz h = absurd wx
full_in_order a b c d o (point i) far y (point l) wx xy yz h = absurd xy
full_in_order a b c d o (point i) (point j) far (point l) wx xy yz h = absurd yz

-- of an Open cell
open_in_order : (a b c : ℕ) → (a < b) × (b < c) → (w x y z : Vertex) → IsBefore w x → IsBefore x y → IsBefore y z →
    has_vertices (Open (a ∷ b ∷ c ∷ [])) w x y z ≡ true → InOrder (Open (a ∷ b ∷ c ∷ [])) w x y z
open_in_order a b c o (point i) (point j) (point k) (point l) ij jk kl h =
    let m = four_is (is_among i (a ∷ b ∷ c ∷ [])) (is_among j (a ∷ b ∷ c ∷ [])) (is_among k (a ∷ b ∷ c ∷ []))
    (is_among l (a ∷ b ∷ c ∷ [])) h in
    absurd (not_four i j k l a b c o.0 o.1 ij jk kl (among_from i (a ∷ b ∷ c ∷ []) m.0)
    (among_from j (a ∷ b ∷ c ∷ []) m.1) (among_from k (a ∷ b ∷ c ∷ []) m.2) (among_from l (a ∷ b ∷ c ∷ []) m.3))
open_in_order a b c o (point i) (point j) (point k) far ij jk kl h =
    let m = four_is (is_among i (a ∷ b ∷ c ∷ [])) (is_among j (a ∷ b ∷ c ∷ [])) (is_among k (a ∷ b ∷ c ∷ [])) true h in
    let s = same_three i j k a b c o.0 o.1 ij jk (among_from i (a ∷ b ∷ c ∷ []) m.0) (among_from j (a ∷ b ∷ c ∷ []) m.1)
    (among_from k (a ∷ b ∷ c ∷ []) m.2) in
    (ap point s.0, ap point s.1, ap point s.2, refl)
open_in_order a b c o far x y z wx xy yz h = absurd wx
open_in_order a b c o (point i) far y z wx xy yz h = absurd xy
open_in_order a b c o (point i) (point j) far z wx xy yz h = absurd yz

-- four vertices in order are the cell's vertices in order
in_order : (q : Cell) → IsOrdered q → (w x y z : Vertex) → IsBefore w x → IsBefore x y → IsBefore y z →
    has_vertices q w x y z ≡ true → InOrder q w x y z
in_order (Full (a ∷ b ∷ c ∷ d ∷ [])) o w x y z wx xy yz h = full_in_order a b c d o w x y z wx xy yz h
in_order (Open (a ∷ b ∷ c ∷ [])) o w x y z wx xy yz h = open_in_order a b c o w x y z wx xy yz h
in_order q o w x y z wx xy yz h = absurd o

-- ---- what four vertices of a cell tell

-- a test at four places
at_four : (c : Vertex → Vertex → Vertex → Vertex → Bool) (w x y z i j k l : Vertex) → w ≡ i → x ≡ j → y ≡ k → z ≡ l →
    c w x y z ≡ c i j k l
at_four c w x y z i j k l e f g h = cc

-- a symmetric test at the four is the test at the cell
pub at_vertices : (c : Vertex → Vertex → Vertex → Vertex → Bool) → Symmetric c → (q : Cell) → IsOrdered q →
    (w x y z : Vertex) → AreFourVertices w x y z → has_vertices q w x y z ≡ true → c w x y z ≡ at_cell c q
at_vertices c s q o w x y z d h =
    in_any_order (λ w x y z. has_vertices q w x y z ≡ true → c w x y z ≡ at_cell c q) (record {
      swap12 = λ w x y z f m. sym (s.first w x y z) ∙ f ((vertices_symmetric q).first w x y z ∙ m);
      swap23 = λ w x y z f m. sym (s.middle w x y z) ∙ f ((vertices_symmetric q).middle w x y z ∙ m);
      swap34 = λ w x y z f m. sym (s.last w x y z) ∙ f ((vertices_symmetric q).last w x y z ∙ m);
    }) (λ w x y z wx xy yz m. told q o w x y z (in_order q o w x y z wx xy yz m)) w x y z d h
  where
    told : (q : Cell) → IsOrdered q → (w x y z : Vertex) → InOrder q w x y z → c w x y z ≡ at_cell c q
    told (Full (i ∷ j ∷ k ∷ l ∷ [])) o w x y z m =
        at_four c w x y z (point i) (point j) (point k) (point l) m.0 m.1 m.2 m.3
    told (Open (i ∷ j ∷ k ∷ [])) o w x y z m = at_four c w x y z (point i) (point j) (point k) far m.0 m.1 m.2 m.3
    told q o w x y z m = absurd o

-- the four are all vertices of the cell
pub all_vertices : (q : Cell) → IsOrdered q → (w x y z : Vertex) → AreFourVertices w x y z →
    has_vertices q w x y z ≡ true → (v : Vertex) → has_vertex q v ≡ true → IsIn v (w ∷ x ∷ y ∷ z ∷ [])
all_vertices q o w x y z d h =
    in_any_order (λ w x y z. has_vertices q w x y z ≡ true → (v : Vertex) → has_vertex q v ≡ true →
    IsIn v (w ∷ x ∷ y ∷ z ∷ [])) (record {
      swap12 = λ w x y z f m v k. front v w x (y ∷ z ∷ []) (f ((vertices_symmetric q).first w x y z ∙ m) v k);
      swap23 = λ w x y z f m v k. elim (f ((vertices_symmetric q).middle w x y z ∙ m) v k) [
        | inl e ↦ inl e
        | inr r ↦ inr (front v x y (z ∷ []) r)
      ];
      swap34 = λ w x y z f m v k. elim (f ((vertices_symmetric q).last w x y z ∙ m) v k) [
        | inl e ↦ inl e
        | inr r ↦ elim r [ inl e ↦ inr (inl e) | inr u ↦ inr (inr (front v y z [] u)) ]
      ];
    }) (λ w x y z wx xy yz m. told q o w x y z (in_order q o w x y z wx xy yz m)) w x y z d h
  where
    front : (v w x : Vertex) (l : List Vertex) → IsIn v (w ∷ x ∷ l) → IsIn v (x ∷ w ∷ l)
    front v w x l m = elim m [ inl e ↦ inr (inl e) | inr r ↦ elim r [ inl e ↦ inl e | inr u ↦ inr (inr u) ] ]

    told : (q : Cell) → IsOrdered q → (w x y z : Vertex) → InOrder q w x y z → (v : Vertex) → has_vertex q v ≡ true →
        IsIn v (w ∷ x ∷ y ∷ z ∷ [])
    told (Full (i ∷ j ∷ k ∷ l ∷ [])) o w x y z m (point e) h = elim (among_from e (i ∷ j ∷ k ∷ l ∷ []) h) [
      | inl f ↦ inl (m.0 ∙ ap point f)
      | inr r ↦ elim r [
        | inl f ↦ inr (inl (m.1 ∙ ap point f))
        | inr u ↦ elim u [
          | inl f ↦ inr (inr (inl (m.2 ∙ ap point f)))
          | inr t ↦ elim t [ inl f ↦ inr (inr (inr (inl (m.3 ∙ ap point f)))) | inr none ↦ absurd none ]
        ]
      ]
    ]
    told (Full (i ∷ j ∷ k ∷ l ∷ [])) o w x y z m far h = absurd (false≢true h)
    told (Open (i ∷ j ∷ k ∷ [])) o w x y z m (point e) h = elim (among_from e (i ∷ j ∷ k ∷ []) h) [
      | inl f ↦ inl (m.0 ∙ ap point f)
      | inr r ↦ elim r [
        | inl f ↦ inr (inl (m.1 ∙ ap point f))
        | inr u ↦ elim u [ inl f ↦ inr (inr (inl (m.2 ∙ ap point f))) | inr none ↦ absurd none ]
      ]
    ]
    told (Open (i ∷ j ∷ k ∷ [])) o w x y z m far h = inr (inr (inr (inl m.3)))
    told q o w x y z m v h = absurd o

-- a cell with the same four vertices is the same
pub same_cell : (q r : Cell) → IsOrdered q → IsOrdered r → (w x y z : Vertex) → AreFourVertices w x y z →
    has_vertices q w x y z ≡ true → has_vertices r w x y z ≡ true → q ≡ r
same_cell q r o p w x y z d h k =
    in_any_order (λ w x y z. has_vertices q w x y z ≡ true → has_vertices r w x y z ≡ true → q ≡ r) (record {
      swap12 = λ w x y z f m n. f ((vertices_symmetric q).first w x y z ∙ m) ((vertices_symmetric r).first w x y z ∙ n);
      swap23 =
          λ w x y z f m n. f ((vertices_symmetric q).middle w x y z ∙ m) ((vertices_symmetric r).middle w x y z ∙ n);
      swap34 = λ w x y z f m n. f ((vertices_symmetric q).last w x y z ∙ m) ((vertices_symmetric r).last w x y z ∙ n);
    }) (λ w x y z wx xy yz m n. told q r o p w x y z (in_order q o w x y z wx xy yz m)
    (in_order r p w x y z wx xy yz n)) w
    x y z d h k
  where
    clash : (d : ℕ) → point d ≡ far → ⊥
    clash d e = cc

    fulls : (a b c d i j k l : ℕ) → point a ≡ point i → point b ≡ point j → point c ≡ point k → point d ≡ point l →
        Full (a ∷ b ∷ c ∷ d ∷ []) ≡ Full (i ∷ j ∷ k ∷ l ∷ [])
    fulls a b c d i j k l e f g h = cc

    opens : (a b c i j k : ℕ) → point a ≡ point i → point b ≡ point j → point c ≡ point k →
        Open (a ∷ b ∷ c ∷ []) ≡ Open (i ∷ j ∷ k ∷ [])
    opens a b c i j k e f g = cc

    full : (a b c d : ℕ) (r : Cell) → IsOrdered r → (w x y z : Vertex) → InOrder (Full (a ∷ b ∷ c ∷ d ∷ [])) w x y z →
        InOrder r w x y z → Full (a ∷ b ∷ c ∷ d ∷ []) ≡ r
    full a b c d (Full (i ∷ j ∷ k ∷ l ∷ [])) p w x y z m n =
        fulls a b c d i j k l (sym m.0 ∙ n.0) (sym m.1 ∙ n.1) (sym m.2 ∙ n.2) (sym m.3 ∙ n.3)
    full a b c d (Open (i ∷ j ∷ k ∷ [])) p w x y z m n = absurd (clash d (sym m.3 ∙ n.3))
    full a b c d r p w x y z m n = absurd p

    open_cell : (a b c : ℕ) (r : Cell) → IsOrdered r → (w x y z : Vertex) → InOrder (Open (a ∷ b ∷ c ∷ [])) w x y z →
        InOrder r w x y z → Open (a ∷ b ∷ c ∷ []) ≡ r
    open_cell a b c (Open (i ∷ j ∷ k ∷ [])) p w x y z m n =
        opens a b c i j k (sym m.0 ∙ n.0) (sym m.1 ∙ n.1) (sym m.2 ∙ n.2)
    open_cell a b c (Full (i ∷ j ∷ k ∷ l ∷ [])) p w x y z m n = absurd (clash l (sym n.3 ∙ m.3))
    open_cell a b c r p w x y z m n = absurd p

    told : (q r : Cell) → IsOrdered q → IsOrdered r → (w x y z : Vertex) → InOrder q w x y z → InOrder r w x y z → q ≡ r
    told (Full (a ∷ b ∷ c ∷ d ∷ [])) r o p w x y z m n = full a b c d r p w x y z m n
    told (Open (a ∷ b ∷ c ∷ [])) r o p w x y z m n = open_cell a b c r p w x y z m n
    told q r o p w x y z m n = absurd o
