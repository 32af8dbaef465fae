-- The order of nearness over listed cells.
use Rattle.std.specs.Prelude.{◌≡◌, refl, ℕ, zero, suc, ℤ, pos, negsuc, neg_ℤ, ◌*ℤ◌, ◌≤ℤ◌, ◌<ℤ◌, Bool, true, false, ◌&&◌}
use Rattle.std.specs.Prelude.{◌||◌, List, [], ◌∷◌, ◌⊎◌, if◌then◌else◌}
use Rattle.std.specs.Int.RustNames.{unsigned_abs}
use Rattle.std.specs.Int.Signed.{lt_z}
use Rattle.std.proofs.Common.{arith, inl, inr, ap, sym, subst, ◌∙◌}
use Rattle.std.proofs.lemmas.Int.{ints}
use Rattle.whole_ring.specs.Signs.{below, at_zero, above}
use Rattle.whole_ring.proofs.Cited.{sign}
use Rattle.list_laws.proofs.Cited.{below_or_not, both_true, clash, false_if, first_true, high_of, left_true, less_from}
use Rattle.list_laws.proofs.Cited.{less_true, low_of, low_turned, one_true, right_true, same_test, second_true}
use Rattle.list_laws.proofs.Cited.{turned_below, two_signs, weak}
use Rattle.point_order.specs.declared.cell.Cell.TheVariants.{Full, Open}
use Rattle.point_order.specs.Coordinates.{IsKey}
use Rattle.point_order.specs.Orientation.{orientation}
use Rattle.point_order.specs.Heights.{height, lifted, out}
use Rattle.point_order.specs.Sets.{IsIn, with_point}
use Rattle.point_order.specs.Conflicts.{are_opposite}
use Rattle.point_order.proofs.Cited.{ascending_self, in_with_new, in_with_old, swap_first, swap_last, swap_middle}
use Rattle.del_laws.specs.Cells as cells
use Rattle.del_laws.specs.Cells.{Vertex, point, far, Held}
use Rattle.del_laws.specs.Keys.{AreKeys}
use Rattle.del_laws.specs.Vertices.{is_open_cell, is_cell}
use Rattle.del_laws.specs.Listed.{cell_of}
use Rattle.del_laws.specs.Walks.{Rank, ratio, is_before}
use Rattle.del_laws.specs.Nearness.{one_less, ratio_by, open_rank, rank, NearerAcross, SomeTripleTowards, NearerInside}
use Rattle.del_laws.proofs.Identities.{orientation_bcad, orientation_acdb, lifted_swap12, lifted_swap23, lifted_swap34}
use Rattle.del_laws.proofs.CellFacts.{full_a, full_b, full_c, full_d, full_point, full_turned, full_apart, open_bounds}
use Rattle.del_laws.proofs.CellFacts.{open_under}
use Rattle.del_laws.proofs.Kept.{with_keys}
use Rattle.del_laws.proofs.Sides.{unique}
use Rattle.del_laws.proofs.Walks.{nearer}
use Rattle.del_laws.proofs.Perturbed.{no_ties, is_convex, out_is}
use Rattle.del_laws.proofs.Bools.{cell_from, above_from, below_from}
use Rattle.del_laws.proofs.Sorting.{turn12, turn23, cell_of_swap12, cell_of_swap23, cell_of_swap34, IsSorted4}
use Rattle.del_laws.proofs.Sorting.{IsSorted3, sort4, sort3}

-- ---- the ratio does not depend on the order of the points

-- of a positive orientation
ratio_above : (o l : ℤ) → pos 0 <ℤ o → ratio_by o l ≡ ratio l (one_less (unsigned_abs o))
ratio_above o l h =
    ap (λ (b : Bool). ratio (if b then l else neg_ℤ l) (one_less (unsigned_abs o))) (less_true (pos 0) o h)

-- no negative number is positive
not_above : (o : ℤ) → o <ℤ pos 0 → lt_z (pos 0) o ≡ false
not_above o h = grind (arith, ints)

-- of a negative one
ratio_below : (o l : ℤ) → o <ℤ pos 0 → ratio_by o l ≡ ratio (neg_ℤ l) (one_less (unsigned_abs o))
ratio_below o l h = ap (λ (b : Bool). ratio (if b then l else neg_ℤ l) (one_less (unsigned_abs o))) (not_above o h)

-- sizes of opposites
same_size : (o : ℤ) → unsigned_abs (neg_ℤ o) ≡ unsigned_abs o
same_size o = omega (arith, ints)

-- opposite of opposite
twice_opposite : (l : ℤ) → neg_ℤ (neg_ℤ l) ≡ l
twice_opposite l = omega (arith, ints)

-- the opposite of a positive number is negative
opposite_low : (o : ℤ) → pos 0 <ℤ o → neg_ℤ o <ℤ pos 0
opposite_low o h = omega (arith, ints)

-- the ratio of opposites
ratio_turned : (o l : ℤ) → ¬ (o ≡ pos 0) → ratio_by (neg_ℤ o) (neg_ℤ l) ≡ ratio_by o l
ratio_turned o l n = elim (sign o) [
  | below h ↦ ratio_above (neg_ℤ o) (neg_ℤ l) (turned_below o h) ∙ ap (λ d. ratio (neg_ℤ l) (one_less d)) (same_size o)
      ∙ sym (ratio_below o l h)
  | at_zero z ↦ absurd (n z)
  | above h ↦ ratio_below (neg_ℤ o) (neg_ℤ l) (opposite_low o h)
      ∙ ap (λ d. ratio (neg_ℤ (neg_ℤ l)) (one_less d)) (same_size o)
      ∙ ap (λ m. ratio m (one_less (unsigned_abs o))) (twice_opposite l) ∙ sym (ratio_above o l h)
]

-- the ratio of four points and p
abbrev ratio_of : ℕ → ℕ → ℕ → ℕ → ℕ → Rank
ratio_of p a b c d = ratio_by (orientation a b c d) (out a b c d p)

-- the determinant with the first two exchanged
out_swap12 : (a b c d e : ℕ) → out b a c d e ≡ neg_ℤ (out a b c d e)
out_swap12 a b c d e = out_is b a c d e ∙ lifted_swap12 height a b c d e ∙ ap neg_ℤ (sym (out_is a b c d e))

-- the middle two
pub out_swap23 : (a b c d e : ℕ) → out a c b d e ≡ neg_ℤ (out a b c d e)
out_swap23 a b c d e = out_is a c b d e ∙ lifted_swap23 height a b c d e ∙ ap neg_ℤ (sym (out_is a b c d e))

-- the last two
out_swap34 : (a b c d e : ℕ) → out a b d c e ≡ neg_ℤ (out a b c d e)
out_swap34 a b c d e = out_is a b d c e ∙ lifted_swap34 height a b c d e ∙ ap neg_ℤ (sym (out_is a b c d e))

-- the same with other numbers
at_numbers : (o o2 l l2 : ℤ) → o2 ≡ neg_ℤ o → l2 ≡ neg_ℤ l → ¬ (o ≡ pos 0) → ratio_by o2 l2 ≡ ratio_by o l
at_numbers o o2 l l2 e f n = ap (λ v. ratio_by v l2) e ∙ ap (λ v. ratio_by (neg_ℤ o) v) f ∙ ratio_turned o l n

-- a cell is not flat
not_flat : (s : List ℕ) (a b c d : ℕ) → is_cell s (point a) (point b) (point c) (point d) ≡ true →
    ¬ (orientation a b c d ≡ pos 0)
not_flat s a b c d t z = elim (cell_from s (point a) (point b) (point c) (point d) t) [
  | inl F ↦ full_apart F z
  | inr F ↦ full_apart F (swap_middle a b c d ∙ ap neg_ℤ z)
]

-- the rank of a Full cell is the ratio in any order
pub full_rank : (s : List ℕ) (p : ℕ) → AreKeys s → (a b c d : ℕ) → is_cell s (point a) (point b) (point c) (point d)
    ≡ true → rank s p (cell_of (point a) (point b) (point c) (point d)) ≡ ratio_of p a b c d
full_rank s p k a b c d t =
    let o = cell_of (point a) (point b) (point c) (point d) in
    by_order (sort4 s k (λ w x y z. (o ≡ cell_of (point w) (point x) (point y) (point z))
    × (ratio_of p w x y z ≡ ratio_of p a b c d))
    (λ w x y z u i. (
      i.0 ∙ cell_of_swap12 (point w) (point x) (point y) (point z),
      at_numbers (orientation w x y z) (orientation x w y z) (out w x y z p) (out x w y z p) (swap_first w x y z)
          (out_swap12 w x y z p) (not_flat s w x y z u) ∙ i.1,
    ))
    (λ w x y z u i. (
      i.0 ∙ cell_of_swap23 (point w) (point x) (point y) (point z),
      at_numbers (orientation w x y z) (orientation w y x z) (out w x y z p) (out w y x z p) (swap_middle w x y z)
          (out_swap23 w x y z p) (not_flat s w x y z u) ∙ i.1,
    ))
    (λ w x y z u i. (
      i.0 ∙ cell_of_swap34 (point w) (point x) (point y) (point z),
      at_numbers (orientation w x y z) (orientation w x z y) (out w x y z p) (out w x z y p) (swap_last w x y z)
          (out_swap34 w x y z p) (not_flat s w x y z u) ∙ i.1,
    ))
    a b c d (t, (refl, refl)))
  where
    -- in order
    by_order : IsSorted4 s (λ w x y z. (cell_of (point a) (point b) (point c) (point d) ≡ cell_of (point w) (point x)
        (point y) (point z)) × (ratio_of p w x y z ≡ ratio_of p a b c d)) →
        rank s p (cell_of (point a) (point b) (point c) (point d)) ≡ ratio_of p a b c d
    by_order r =
        ap (rank s p) (r.holds.0 ∙ ap Full (ascending_self (r.a ∷ r.b ∷ r.c ∷ r.d ∷ [])
        (r.first, (r.second, (r.third, (tt, tt)))))) ∙ r.holds.1

-- the rank of an Open cell is by the test in any order
pub open_rank_is : (s : List ℕ) (p : ℕ) → AreKeys s → AreKeys (with_point p s) → (a b c : ℕ) →
    is_cell s (point a) (point b) (point c) far ≡ true → rank s p (cell_of (point a) (point b) (point c) far)
    ≡ open_rank (is_open_cell (with_point p s) a b c)
open_rank_is s p k j a b c t =
    let o = cell_of (point a) (point b) (point c) far in
    by_order (sort3 s k (λ x y z. (o ≡ cell_of (point x) (point y) (point z) far)
    × (is_open_cell (with_point p s) x y z ≡ is_open_cell (with_point p s) a b c))
    (λ x y z i. (
      i.0 ∙ cell_of_swap12 (point x) (point y) (point z) far,
      same_test (is_open_cell (with_point p s) y x z)
          (is_open_cell (with_point p s) x y z) (turn12 (with_point p s) j (point y) (point x) (point z) far)
          (turn12 (with_point p s) j (point x) (point y) (point z) far) ∙ i.1,
    ))
    (λ x y z i. (
      i.0 ∙ cell_of_swap23 (point x) (point y) (point z) far,
      same_test (is_open_cell (with_point p s) x z y)
          (is_open_cell (with_point p s) x y z) (turn23 (with_point p s) j (point x) (point z) (point y) far)
          (turn23 (with_point p s) j (point x) (point y) (point z) far) ∙ i.1,
    ))
    a b c (t, (refl, refl)))
  where
    -- in order
    by_order : IsSorted3 s (λ x y z. (cell_of (point a) (point b) (point c) far ≡ cell_of (point x) (point y)
        (point z) far) × (is_open_cell (with_point p s) x y z ≡ is_open_cell (with_point p s) a b c)) →
        rank s p (cell_of (point a) (point b) (point c) far) ≡ open_rank (is_open_cell (with_point p s) a b c)
    by_order r =
        ap (rank s p) (r.holds.0 ∙ ap Open (ascending_self (r.a ∷ r.b ∷ r.c ∷ []) (r.first, (r.second, (tt, tt)))))
        ∙ ap open_rank r.holds.1

-- ---- sides

-- strictly on opposite sides, by the two orientations
abbrev opposite_by : ℤ → ℤ → Bool
opposite_by m q = (lt_z (pos 0) m && lt_z q (pos 0)) || (lt_z m (pos 0) && lt_z (pos 0) q)

-- above and below
opposite_above : (m q : ℤ) → pos 0 <ℤ m → q <ℤ pos 0 → opposite_by m q ≡ true
opposite_above m q h l =
    left_true (lt_z (pos 0) m && lt_z q (pos 0)) (lt_z m (pos 0) && lt_z (pos 0) q)
    (both_true (lt_z (pos 0) m) (lt_z q (pos 0)) (less_true (pos 0) m h) (less_true q (pos 0) l))

-- below and above
opposite_below : (m q : ℤ) → m <ℤ pos 0 → pos 0 <ℤ q → opposite_by m q ≡ true
opposite_below m q h l =
    right_true (lt_z (pos 0) m && lt_z q (pos 0)) (lt_z m (pos 0) && lt_z (pos 0) q)
    (both_true (lt_z m (pos 0)) (lt_z (pos 0) q) (less_true m (pos 0) h) (less_true (pos 0) q l))

-- opposite to what is above is below
low_from : (m q : ℤ) → pos 0 <ℤ m → opposite_by m q ≡ true → q <ℤ pos 0
low_from m q h t = elim (one_true (lt_z (pos 0) m && lt_z q (pos 0)) (lt_z m (pos 0) && lt_z (pos 0) q) t) [
  | inl e ↦ less_from q (pos 0) (second_true (lt_z (pos 0) m) (lt_z q (pos 0)) e)
  | inr e ↦ absurd (two_signs m h (less_from m (pos 0) (first_true (lt_z m (pos 0)) (lt_z (pos 0) q) e)))
]

-- opposite to what is below is above
high_from : (m q : ℤ) → m <ℤ pos 0 → opposite_by m q ≡ true → pos 0 <ℤ q
high_from m q h t = elim (one_true (lt_z (pos 0) m && lt_z q (pos 0)) (lt_z m (pos 0) && lt_z (pos 0) q) t) [
  | inl e ↦ absurd (two_signs m (less_from (pos 0) m (first_true (lt_z (pos 0) m) (lt_z q (pos 0)) e)) h)
  | inr e ↦ less_from (pos 0) q (second_true (lt_z m (pos 0)) (lt_z (pos 0) q) e)
]

-- ---- across

-- the denominator of a positive orientation
size_above : (o : ℤ) → pos 0 <ℤ o → pos (suc (one_less (unsigned_abs o))) ≡ o
size_above (pos zero) h = absurd h.lt
size_above (pos (suc n)) h = refl
size_above (negsuc n) h = absurd h.lt

-- of a negative one
size_below : (o : ℤ) → o <ℤ pos 0 → pos (suc (one_less (unsigned_abs o))) ≡ neg_ℤ o
size_below (pos n) h = absurd (no_pos n h)
  where
    -- no natural number is negative
    no_pos : (n : ℕ) → pos n <ℤ pos 0 → ⊥
    no_pos n l = omega (arith, ints)
size_below (negsuc n) h = refl

-- ranks are compared by what they are
before_by : {q r q2 r2 : Rank} → q ≡ q2 → r ≡ r2 → is_before q2 r2 ≡ true → is_before q r ≡ true
before_by {q} {r} {q2} {r2} e f t = ap (λ v. is_before v r) e ∙ ap (λ v. is_before q2 v) f ∙ t

-- a ratio over a negative orientation and one over a positive one
ratio_before : (o l m k o2 l2 : ℤ) → o <ℤ pos 0 → pos 0 <ℤ m → o2 ≡ neg_ℤ o → l2 ≡ neg_ℤ l → (l2 *ℤ m) <ℤ (k *ℤ o2) →
    is_before (ratio_by o l) (ratio_by m k) ≡ true
ratio_before o l m k o2 l2 ho hm eo el h =
    before_by (ratio_below o l ho) (ratio_above m k hm)
    (less_true (neg_ℤ l *ℤ pos (suc (one_less (unsigned_abs m)))) (k *ℤ pos (suc (one_less (unsigned_abs o))))
    (subst (λ v. (neg_ℤ l *ℤ v) <ℤ (k *ℤ pos (suc (one_less (unsigned_abs o))))) (sym (size_above m hm))
    (subst (λ v. (neg_ℤ l *ℤ m) <ℤ (k *ℤ v)) (sym (size_below o ho))
    (subst (λ v. (v *ℤ m) <ℤ (k *ℤ neg_ℤ o)) el (subst (λ v. (l2 *ℤ m) <ℤ (k *ℤ v)) eo h)))))

module _ (s : List ℕ) (p : ℕ) (k : AreKeys s) (j : IsKey p) (o : IsIn p s → ⊥) where
  -- in an order of positive orientation
  across_above : (a b c x : ℕ) (y : Vertex) → cells.Full height s a b c x →
      is_cell s (point a) (point b) (point c) (point x) ≡ true → is_cell s (point a) (point b) (point c) y ≡ true →
      (y ≡ point x → ⊥) → orientation a b c p <ℤ pos 0 → is_before (rank s p (cell_of (point a) (point b) (point c) y))
      (rank s p (cell_of (point a) (point b) (point c) (point x))) ≡ true
  across_above a b c x (point f) F t u n l = elim (cell_from s (point a) (point b) (point c) (point f) u) [
    | inl G ↦ absurd (n (unique height s a b c (no_ties s k) (point f) (point x) G F))
    | inr G ↦ before_by (full_rank s p k a b c f u) (full_rank s p k a b c x t)
        (ratio_before (orientation a b c f) (out a b c f p) (orientation a b c x) (out a b c x p) (orientation a c b f)
        (lifted height a c b f p) (low_of (orientation a b c f) (orientation a c b f) (full_turned G)
        (swap_middle a b c f)) (full_turned F) (swap_middle a b c f)
        (sym (out_is a c b f p) ∙ out_swap23 a b c f p)
        (subst (λ z. (lifted height a c b f p *ℤ orientation a b c x) <ℤ (z *ℤ orientation a c b f))
        (sym (out_is a b c x p)) (nearer (no_ties s k) F G p l)))
  ]
  across_above a b c x far F t u n l = elim (cell_from s (point a) (point b) (point c) far u) [
    | inl G ↦ absurd (open_under _ (full_d F) (full_turned F) G)
    | inr G ↦ before_by (open_rank_is s p k (with_keys s p k j) a b c u
        ∙ ap open_rank (false_if (is_open_cell (with_point p s) a b c) (gone a b c x F l))) (full_rank s p k a b c x t)
        refl
  ]
    where
      -- p takes the Open cell away
      gone : (a b c x : ℕ) → cells.Full height s a b c x → orientation a b c p <ℤ pos 0 →
          is_open_cell (with_point p s) a b c ≡ true → ⊥
      gone a b c x F l e = elim (cell_from (with_point p s) (point a) (point b) (point c) far e) [
        | inl G ↦ open_under _ (in_with_old p x s (full_d F)) (full_turned F) G
        | inr G ↦ clash (orientation a b c p) l (open_bounds G p (in_with_new p s))
      ]

-- across a triple towards p
pub nearer_across : NearerAcross
nearer_across s p a b c x y k j o t u n e = elim (cell_from s (point a) (point b) (point c) (point x) t) [
  | inl F ↦ across_above s p k j o a b c x y F t u n (low_from (orientation a b c x) (orientation a b c p)
      (full_turned F) e)
  | inr F ↦ before_by (ap (rank s p) (cell_of_swap23 (point a) (point b) (point c) y))
      (ap (rank s p) (cell_of_swap23 (point a) (point b) (point c) (point x)))
      (across_above s p k j o a c b x y F (turn23 s k (point a) (point b) (point c) (point x) t)
      (turn23 s k (point a) (point b) (point c) y u) n
      (low_turned (orientation a b c p) (orientation a c b p) (high_from (orientation a b c x) (orientation a b c p)
      (low_of (orientation a b c x) (orientation a c b x) (full_turned F) (swap_middle a b c x)) e)
      (swap_middle a b c p)))
]

-- from an Open cell that stays
pub nearer_inside : NearerInside
nearer_inside s p a b c d k j o t u e =
    before_by (full_rank s p k a b c d u) (open_rank_is s p k (with_keys s p k j) a b c t ∙ ap open_rank e) refl

-- ---- some triple

-- one of the four triples of a cell, in an order of positive orientation, has p behind it
towards : (s : List ℕ) (p a b c d : ℕ) → AreKeys s → IsKey p → (IsIn p s → ⊥) → cells.Full height s a b c d →
    pos 0 ≤ℤ lifted height a b c d p → (orientation b d c p <ℤ pos 0)
    ⊎ ((orientation a c d p <ℤ pos 0) ⊎ ((orientation a d b p <ℤ pos 0) ⊎ (orientation a b c p <ℤ pos 0)))
towards s p a b c d k j o F l = elim (below_or_not (orientation b d c p)) [
  | inl q ↦ inl q
  | inr ka ↦ elim (below_or_not (orientation a c d p)) [
    | inl q ↦ inr (inl q)
    | inr kb ↦ elim (below_or_not (orientation a d b p)) [
      | inl q ↦ inr (inr (inl q))
      | inr kc ↦ elim (below_or_not (orientation a b c p)) [
        | inl q ↦ inr (inr (inr q))
        | inr kd ↦ absurd (o (full_point F ((is_convex (with_point p s) (with_keys s p k j)).one_of a b c d p
            (in_with_old p a s (full_a F)) (in_with_old p b s (full_b F)) (in_with_old p c s (full_c F))
            (in_with_old p d s (full_d F)) (in_with_new p s) (full_turned F) ka kb kc kd l)))
      ]
    ]
  ]
]

-- an equal number
same_up : (z v : ℤ) → pos 0 <ℤ z → v ≡ z → pos 0 <ℤ v
same_up z v h e = omega (arith, ints)

-- an equal number
same_down : (z v : ℤ) → z <ℤ pos 0 → v ≡ z → v <ℤ pos 0
same_down z v h e = omega (arith, ints)

-- orientations of the rotations of four points
rotation_a : (a b c d : ℕ) → orientation b c d a ≡ neg_ℤ (orientation a b c d)
rotation_a a b c d = swap_last b c a d ∙ ap neg_ℤ (orientation_bcad a b c d)

-- the four tests, one of which passes
pub some_triple_towards : SomeTripleTowards
some_triple_towards s p a b c d k j o t e =
    let ta = are_opposite b c d a p in
    let tb = are_opposite a c d b p in
    let tc = are_opposite a b d c p in
    let td = are_opposite a b c d p in
    elim (cell_from s (point a) (point b) (point c) (point d) t) [
      | inl F ↦ elim (towards s p a b c d k j o F (weak (lifted height a b c d p)
          (above_from a b c d p e (full_turned F)))) [
            | inl q ↦ left_true (ta || tb || tc) td (left_true (ta || tb) tc
                (left_true ta tb (opposite_below (orientation b c d a) (orientation b c d p)
                (low_turned (orientation a b c d) (orientation b c d a) (full_turned F) (rotation_a a b c d))
                (high_of (orientation b d c p) (orientation b c d p) q (swap_middle b d c p)))))
            | inr r ↦ elim r [
              | inl q ↦ left_true (ta || tb || tc) td (left_true (ta || tb) tc
                  (right_true ta tb (opposite_above (orientation a c d b) (orientation a c d p)
                  (same_up (orientation a b c d) (orientation a c d b) (full_turned F) (orientation_acdb a b c d)) q)))
              | inr u ↦ elim u [
                | inl q ↦ left_true (ta || tb || tc) td (right_true (ta || tb) tc
                    (opposite_below (orientation a b d c) (orientation a b d p)
                    (low_turned (orientation a b c d) (orientation a b d c) (full_turned F) (swap_last a b c d))
                    (high_of (orientation a d b p) (orientation a b d p) q (swap_middle a d b p))))
                | inr q ↦ right_true (ta || tb || tc) td (opposite_above (orientation a b c d) (orientation a b c p)
                    (full_turned F) q)
              ]
            ]
          ]
      | inr F ↦ (
          let low : orientation a b c d <ℤ pos 0 =
          low_turned (orientation a c b d) (orientation a b c d) (full_turned F) (swap_middle a c b d) in
          elim (towards s p a c b d k j o F (weak (lifted height a c b d p)
          (high_of (lifted height a b c d p) (lifted height a c b d p) (below_from a b c d p e low)
          (lifted_swap23 height a b c d p)))) [
            | inl q ↦ left_true (ta || tb || tc) td (left_true (ta || tb) tc
                (left_true ta tb (opposite_above (orientation b c d a) (orientation b c d p)
                (high_of (orientation a b c d) (orientation b c d a) low (rotation_a a b c d))
                (same_down (orientation c d b p) (orientation b c d p) q (sym (orientation_bcad b c d p))))))
            | inr r ↦ elim r [
              | inl q ↦ left_true (ta || tb || tc) td (right_true (ta || tb) tc
                  (opposite_above (orientation a b d c) (orientation a b d p)
                  (high_of (orientation a b c d) (orientation a b d c) low (swap_last a b c d)) q))
              | inr u ↦ elim u [
                | inl q ↦ left_true (ta || tb || tc) td (left_true (ta || tb) tc
                    (right_true ta tb (opposite_below (orientation a c d b) (orientation a c d p)
                    (same_down (orientation a b c d) (orientation a c d b) low (orientation_acdb a b c d))
                    (high_of (orientation a d c p) (orientation a c d p) q (swap_middle a d c p)))))
                | inr q ↦ right_true (ta || tb || tc) td (opposite_below (orientation a b c d) (orientation a b c p) low
                    (high_of (orientation a c b p) (orientation a b c p) q (swap_middle a c b p)))
              ]
            ]
          ])
    ]
