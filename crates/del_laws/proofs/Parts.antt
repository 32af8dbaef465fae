-- Closed parts: a set of cells that is closed across the triples around some points holds all cells around them.
--
use Rattle.std.specs.Prelude.{ℕ, List, [], ◌∷◌}
use Rattle.std.proofs.Common.{inl, inr, subst, sym, ap}
use Rattle.list_laws.proofs.Cited.{both}
use Rattle.point_order.specs.Sets.{IsIn}
use Rattle.del_laws.specs.Cells.{Full, Vertex, point, far, Held, NoTies, Four, IsSymmetric, IsRegion, HavePoints}
use Rattle.del_laws.proofs.Orders.{full_left, full_right, swap12, swap23, swap34}
use Rattle.del_laws.proofs.Across.{across_open}
use Rattle.del_laws.proofs.Regions.{IsSetOf}
use Rattle.del_laws.proofs.Walks.{IsClosed}
use Rattle.del_laws.proofs.Stars.{Holds, star}
use Rattle.del_laws.proofs.Decide.{decide_full}
use Rattle.del_laws.proofs.Pairs.{same_point, far_point}

-- a cell is symmetric in its vertices
pub held_even : (h : ℕ → ℕ) (s : List ℕ) → IsSymmetric (λ w x y z. Held h s w x y z)
held_even h s = record { swap12 = swap12 h s; swap23 = swap23 h s; swap34 = swap34 h s }

-- what holds of three points and a fourth vertex holds of every cell
pub by_triples : (h : ℕ → ℕ) (s : List ℕ) (p q : Vertex → Vertex → Vertex → Vertex → Type 0) → IsSymmetric p →
    IsSymmetric q → ((w x y z : Vertex) → p w x y z → Held h s w x y z) →
    ((a b c : ℕ) (z : Vertex) → p (point a) (point b) (point c) z → q (point a) (point b) (point c) z) →
    (w x y z : Vertex) → p w x y z → q w x y z
by_triples h s p q e f k g (point a) (point b) (point c) z t = g a b c z t
by_triples h s p q e f k g (point a) (point b) far (point d) t =
    f.swap34 (point a) (point b) (point d) far (g a b d far (e.swap34 (point a) (point b) far (point d) t))
by_triples h s p q e f k g (point a) (point b) far far t = absurd (k (point a) (point b) far far t)
by_triples h s p q e f k g (point a) far (point c) (point d) t =
    f.swap23 (point a) (point c) far (point d) (f.swap34 (point a) (point c) (point d) far
    (g a c d far (e.swap34 (point a) (point c) far (point d) (e.swap23 (point a) far (point c) (point d) t))))
by_triples h s p q e f k g (point a) far (point c) far t = absurd (k (point a) far (point c) far t)
by_triples h s p q e f k g (point a) far far z t = absurd (k (point a) far far z t)
by_triples h s p q e f k g far (point b) (point c) (point d) t =
    f.swap12 (point b) far (point c) (point d) (f.swap23 (point b) (point c) far (point d)
    (f.swap34 (point b) (point c) (point d) far (g b c d far
    (e.swap34 (point b) (point c) far (point d) (e.swap23 (point b) far (point c) (point d)
    (e.swap12 far (point b) (point c) (point d) t))))))
by_triples h s p q e f k g far (point b) (point c) far t = absurd (k far (point b) (point c) far t)
by_triples h s p q e f k g far (point b) far z t = absurd (k far (point b) far z t)
by_triples h s p q e f k g far far y z t = absurd (k far far y z t)

-- closed across the triples that have the points of k
pub record IsPart (h : ℕ → ℕ) (s : List ℕ) (r : Vertex → Vertex → Vertex → Vertex → Type 0) (k : List ℕ) : Type 0 where
  pub has : (w x y z : Vertex) → r w x y z → HavePoints k w x y z
  pub across : (a b c : ℕ) (x y : Vertex) → ((i : ℕ) → IsIn i k → IsIn i (a ∷ b ∷ c ∷ [])) →
      r (point a) (point b) (point c) x → Held h s (point a) (point b) (point c) y → r (point a) (point b) (point c) y

-- a triple of an Open cell has the points that the cell has
first_three : (k : List ℕ) (a b c : ℕ) → HavePoints k (point a) (point b) (point c) far → (i : ℕ) → IsIn i k →
    IsIn i (a ∷ b ∷ c ∷ [])
first_three k a b c g i m = elim (g.one_of i m) [
  | inl e ↦ inl (same_point a i e)
  | inr r ↦ elim r [
    | inl e ↦ inr (inl (same_point b i e))
    | inr u ↦ elim u [
      | inl e ↦ inr (inr (inl (same_point c i e)))
      | inr v ↦ elim v [ inl e ↦ absurd (far_point i e) | inr none ↦ absurd none ]
    ]
  ]
]

-- a triple of a Full cell that has all but one of its points has those that the cell has, but for that one
but_last : (k : List ℕ) (a b c d : ℕ) → HavePoints k (point a) (point b) (point c) (point d) → ¬ (IsIn d k) → (i : ℕ) →
    IsIn i k → IsIn i (a ∷ b ∷ c ∷ [])
but_last k a b c d g n i m = elim (g.one_of i m) [
  | inl e ↦ inl (same_point a i e)
  | inr r ↦ elim r [
    | inl e ↦ inr (inl (same_point b i e))
    | inr u ↦ elim u [
      | inl e ↦ inr (inr (inl (same_point c i e)))
      | inr v ↦ elim v [
        | inl e ↦ absurd (n (subst (λ x. IsIn x k) (sym (same_point d i e)) m))
        | inr none ↦ absurd none
      ]
    ]
  ]
]

-- of four points
of_points : (k : List ℕ) (a b c d : ℕ) → HavePoints k (point a) (point b) (point c) (point d) → Holds k a b c d
of_points k a b c d g = record {
  one_of = λ i m. elim (g.one_of i m) [
    | inl e ↦ inl (same_point a i e)
    | inr r ↦ elim r [
      | inl e ↦ inr (inl (same_point b i e))
      | inr u ↦ elim u [
        | inl e ↦ inr (inr (inl (same_point c i e)))
        | inr v ↦ elim v [ inl e ↦ inr (inr (inr (inl (same_point d i e)))) | inr none ↦ absurd none ]
      ]
    ]
  ];
}

-- a triple with one more vertex
with_last : (k : List ℕ) (a b c : ℕ) (z : Vertex) → ((i : ℕ) → IsIn i k → IsIn i (a ∷ b ∷ c ∷ [])) →
    HavePoints k (point a) (point b) (point c) z
with_last k a b c z g = record {
  one_of = λ i m. elim (g i m) [
    | inl e ↦ inl (ap point e)
    | inr r ↦ elim r [
      | inl e ↦ inr (inl (ap point e))
      | inr u ↦ elim u [ inl e ↦ inr (inr (inl (ap point e))) | inr none ↦ absurd none ]
    ]
  ];
}

-- the first two members are exchanged
swap_first : {X : Type 0} (i w x : X) (l : List X) → IsIn i (w ∷ x ∷ l) → IsIn i (x ∷ w ∷ l)
swap_first i w x l m = elim m [ inl e ↦ inr (inl e) | inr r ↦ elim r [ inl e ↦ inl e | inr u ↦ inr (inr u) ] ]

-- one more member in front
later : {X : Type 0} (i w : X) (l t : List X) → (IsIn i l → IsIn i t) → IsIn i (w ∷ l) → IsIn i (w ∷ t)
later i w l t f m = elim m [ inl e ↦ inl e | inr r ↦ inr (f r) ]

-- in any order
pub has_even : (k : List ℕ) → IsSymmetric (λ w x y z. HavePoints k w x y z)
has_even k = record {
  swap12 = λ w x y z g. record { one_of = λ i m. swap_first (point i) w x (y ∷ z ∷ []) (g.one_of i m) };
  swap23 = λ w x y z g. record {
    one_of = λ i m. later (point i) w (x ∷ y ∷ z ∷ []) (y ∷ x ∷ z ∷ [])
        (swap_first (point i) x y (z ∷ [])) (g.one_of i m);
  };
  swap34 = λ w x y z g. record {
    one_of = λ i m. later (point i) w (x ∷ y ∷ z ∷ []) (x ∷ z ∷ y ∷ [])
        (later (point i) x (y ∷ z ∷ []) (z ∷ y ∷ []) (swap_first (point i) y z [])) (g.one_of i m);
  };
}

-- two symmetric statements together
pub and_even : {p q : Vertex → Vertex → Vertex → Vertex → Type 0} → IsSymmetric p → IsSymmetric q →
    IsSymmetric (λ w x y z. p w x y z × q w x y z)
and_even e f = record {
  swap12 = λ w x y z t. (e.swap12 w x y z t.0, f.swap12 w x y z t.1);
  swap23 = λ w x y z t. (e.swap23 w x y z t.0, f.swap23 w x y z t.1);
  swap34 = λ w x y z t. (e.swap34 w x y z t.0, f.swap34 w x y z t.1);
}

-- the Full cells of a region
abbrev Inner : (ℕ → ℕ) → List ℕ → (Vertex → Vertex → Vertex → Vertex → Type 0) → ℕ → ℕ → ℕ → ℕ → Type 0
Inner h s r a b c d = r (point a) (point b) (point c) (point d) × Full h s a b c d

-- the region has a Full cell
pub record HasInner (h : ℕ → ℕ) (s : List ℕ) (r : Vertex → Vertex → Vertex → Vertex → Type 0) : Type 0 where
  pub f : Four
  pub at : Inner h s r f.a f.b f.c f.d

module _ (h : ℕ → ℕ) (s : List ℕ) (n : NoTies h s) (r : Vertex → Vertex → Vertex → Vertex → Type 0) (u : IsRegion h s r)
    (k : List ℕ) (z : IsPart h s r k) where
  -- they are a set of Full cells
  inner_set : IsSetOf h s (Inner h s r)
  inner_set = record {
    decide = λ a b c d. both (u.decide (point a) (point b) (point c) (point d)) (decide_full h s a b c d);
    left = λ a b c d t. (
      u.even.swap23 (point b) (point a) (point c) (point d)
          (u.even.swap12 (point a) (point b) (point c) (point d) t.0),
      full_left t.1,
    );
    right = λ a b c d t. (
      u.even.swap34 (point a) (point c) (point b) (point d)
          (u.even.swap23 (point a) (point b) (point c) (point d) t.0),
      full_right t.1,
    );
    full = λ a b c d t. t.1;
  }

  -- and closed
  inner_closed : IsClosed h s (Inner h s r) k
  inner_closed = record {
    across = λ a b c d f t o F. (
      u.even.swap23 (point a) (point b) (point c) (point f)
          (z.across a b c (point d) (point f) (but_last k a b c d (z.has (point a) (point b) (point c) (point d) t.0) o)
          t.0 (inr F)),
      F,
    );
  }

  -- from any cell of the region, one that is Full
  inner_from : (a b c : ℕ) (y : Vertex) → r (point a) (point b) (point c) y → HasInner h s r
  inner_from a b c (point d) t = elim (u.held (point a) (point b) (point c) (point d) t) [
    | inl F ↦ record { f = record { a = a; b = b; c = c; d = d }; at = (t, F) }
    | inr F ↦ record {
      f = record { a = a; b = c; c = b; d = d };
      at = (u.even.swap23 (point a) (point b) (point c) (point d) t, F);
    }
  ]
  inner_from a b c far t = elim (u.held (point a) (point b) (point c) far t) [
    | inl F ↦ (
        let d = across_open F in
        record {
          f = record { a = a; b = c; c = b; d = d.0 };
          at = (
            u.even.swap23 (point a) (point b) (point c) (point d.0)
                (z.across a b c far (point d.0) (first_three k a b c (z.has (point a) (point b) (point c) far t)) t
                (inr d.1)),
            d.1,
          );
        })
    | inr F ↦ (
        let d = across_open F in
        record {
          f = record { a = a; b = b; c = c; d = d.0 };
          at = (
            z.across a b c far (point d.0) (first_three k a b c (z.has (point a) (point b) (point c) far t)) t
                (inl d.1),
            d.1,
          );
        })
  ]

  -- by the star law they are all Full cells that have the points
  inner_all : HasInner h s r → (a b c d : ℕ) → Full h s a b c d → Holds k a b c d →
      r (point a) (point b) (point c) (point d)
  inner_all v a b c d F g = (star n inner_set inner_closed v.at F g).0

  -- in any order
  points_all : HasInner h s r → (a b c d : ℕ) → Held h s (point a) (point b) (point c) (point d) →
      HavePoints k (point a) (point b) (point c) (point d) → r (point a) (point b) (point c) (point d)
  points_all v a b c d t g = elim t [
    | inl F ↦ inner_all v a b c d F (of_points k a b c d g)
    | inr F ↦ u.even.swap23 (point a) (point c) (point b) (point d)
        (inner_all v a c b d F (of_points k a c b d ((has_even k).swap23 (point a) (point b) (point c) (point d) g)))
  ]

  -- and an Open cell is across its triple from one of them
  triple_all : HasInner h s r → (a b c : ℕ) (y : Vertex) → Held h s (point a) (point b) (point c) y
      × HavePoints k (point a) (point b) (point c) y → r (point a) (point b) (point c) y
  triple_all v a b c (point d) t = points_all v a b c d t.0 t.1
  triple_all v a b c far t =
      let g = first_three k a b c t.1 in
      elim t.0 [
        | inl F ↦ (let d = across_open F in z.across a b c (point d.0) far g
            (points_all v a b c d.0 (inr d.1) (with_last k a b c (point d.0) g)) (inl F))
        | inr F ↦ (let d = across_open F in z.across a b c (point d.0) far g
            (points_all v a b c d.0 (inl d.1) (with_last k a b c (point d.0) g)) (inr F))
      ]

  -- so the region has all cells that have the points
  pub part_all : (w x y z' : Vertex) → r w x y z' → (t v i j : Vertex) → Held h s t v i j → HavePoints k t v i j →
      r t v i j
  part_all w x y z' m t v i j F g =
      by_triples h s (λ w x y z. Held h s w x y z × HavePoints k w x y z) r (and_even (held_even h s) (has_even k))
      u.even (λ w x y z t. t.0) (triple_all (some w x y z' m)) t v i j (F, g)
    where
      -- from any cell of the region
      some : (w x y z : Vertex) → r w x y z → HasInner h s r
      some w x y z m =
          by_triples h s r (λ w x y z. HasInner h s r) u.even (record {
            swap12 = λ w x y z t. t;
            swap23 = λ w x y z t. t;
            swap34 = λ w x y z t. t;
          }) u.held inner_from w x y z m
