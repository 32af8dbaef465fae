-- The order of points by distance and key.
use Rattle.std.specs.Prelude.{◌≡◌, refl, ℕ, ℤ, pos, negsuc, unsigned_abs, ◌≤ℤ◌, ◌<ℤ◌, ◌<◌, ◌≤◌, ◌+◌, ◌*◌, ◌^◌, true}
use Rattle.std.specs.Prelude.{false, not, ◌&&◌, nat_lt, List, [], ◌∷◌, ◌++◌, ◌⊎◌, length, take, slice_index_or}
use Rattle.std.specs.Int.Signed.{lt_z}
use Rattle.std.proofs.Common.{arith, inl, inr, sym, subst}
use Rattle.std.proofs.lemmas.Int.{ints}
use Rattle.whole_ring.proofs.Cited.{square_nonneg}
use Rattle.list_laws.proofs.Cited.{below_from, below_true, both_true, false_if, first_true, left_true, less_from}
use Rattle.list_laws.proofs.Cited.{less_true, not_both, not_from, not_true, one_true, right_true, second_true, in_left}
use Rattle.list_laws.proofs.Cited.{from_append, in_right, in_take_more, take_next}
use Rattle.point_order.specs.Orientation.{distance, square_of_step, x_from, y_from, z_from}
use Rattle.point_order.specs.Sets.{IsIn}
use Rattle.del_laws.specs.Nearest.{comes_before}
use Rattle.nearest_points.specs.Points.{IsFirstOf}

-- ---- in numbers

-- the first of two pairs is lower: by its first number, or else by its second
data IsLower (da db : ℤ) (a b : ℕ) : Type 0 where
  nearer : da <ℤ db → IsLower da db a b
  as_near : da ≤ℤ db → a < b → IsLower da db a b

-- or it is not lower
record IsNotLower (da db : ℤ) (a b : ℕ) : Type 0 where
  far : db ≤ℤ da
  late : da ≤ℤ db → b ≤ a

-- what is below nothing is not below
at_most : (x y : ℤ) → ¬ (x <ℤ y) → y ≤ℤ x
at_most x y n = grind (arith, ints)

-- of numbers as well
at_most_key : (x y : ℕ) → ¬ (x < y) → y ≤ x
at_most_key x y n = grind arith

-- nothing is lower and not lower
clash : (da db : ℤ) (a b : ℕ) → IsLower da db a b → IsNotLower da db a b → ⊥
clash da db a b (nearer l) n = let f = n.far in omega (arith, ints, f)
clash da db a b (as_near l k) n = let f = n.late l in omega (arith, f, k)

-- what the test says
lower_from : (q a b : ℕ) → comes_before q a b ≡ true → IsLower (distance q a) (distance q b) a b
lower_from q a b t = elim (one_true (lt_z (distance q a) (distance q b))
    (not (lt_z (distance q b) (distance q a)) && nat_lt a b) t) [
      | inl u ↦ nearer (less_from (distance q a) (distance q b) u)
      | inr u ↦ as_near
          (at_most (distance q b) (distance q a) (λ l. not_both (lt_z (distance q b) (distance q a))
          (less_true (distance q b) (distance q a) l) (not_from (lt_z (distance q b) (distance q a))
          (first_true (not (lt_z (distance q b) (distance q a))) (nat_lt a b) u))))
          (below_from a b (second_true (not (lt_z (distance q b) (distance q a))) (nat_lt a b) u))
    ]

-- and back
lower_true : (q a b : ℕ) → IsLower (distance q a) (distance q b) a b → comes_before q a b ≡ true
lower_true q a b (nearer l) = left_true (lt_z (distance q a) (distance q b))
    (not (lt_z (distance q b) (distance q a)) && nat_lt a b) (less_true (distance q a) (distance q b) l)
lower_true q a b (as_near l k) =
    right_true (lt_z (distance q a) (distance q b)) (not (lt_z (distance q b) (distance q a)) && nat_lt a b)
    (both_true (not (lt_z (distance q b) (distance q a))) (nat_lt a b)
    (not_true (lt_z (distance q b) (distance q a)) (false_if (lt_z (distance q b) (distance q a))
    (λ t. two (distance q a) (distance q b) l (less_from (distance q b) (distance q a) t))))
    (below_true a b k))
  where
    -- not both ways
    two : (x y : ℤ) → x ≤ℤ y → y <ℤ x → ⊥
    two x y h g = omega (arith, ints)

-- where the test fails
not_lower_from : (q a b : ℕ) → comes_before q a b ≡ false → IsNotLower (distance q a) (distance q b) a b
not_lower_from q a b f = record {
  far = at_most (distance q a) (distance q b) (λ l. not_both (comes_before q a b) (lower_true q a b (nearer l)) f);
  late = λ m. at_most_key a b (λ l. not_both (comes_before q a b) (lower_true q a b (as_near m l)) f);
}

-- and back
not_lower_false : (q a b : ℕ) → IsNotLower (distance q a) (distance q b) a b → comes_before q a b ≡ false
not_lower_false q a b n = false_if (comes_before q a b) (λ t. clash (distance q a) (distance q b) a b
    (lower_from q a b t) n)

-- ---- an order

-- lower than what is lower
chain : (da db dc : ℤ) (a b c : ℕ) → IsLower da db a b → IsLower db dc b c → IsLower da dc a c
chain da db dc a b c (nearer l) (nearer m) = nearer (let h : da <ℤ dc = omega (arith, ints) in h)
chain da db dc a b c (nearer l) (as_near m k) = nearer (let h : da <ℤ dc = omega (arith, ints) in h)
chain da db dc a b c (as_near l i) (nearer m) = nearer (let h : da <ℤ dc = omega (arith, ints) in h)
chain da db dc a b c (as_near l i) (as_near m k) = as_near (let h : da ≤ℤ dc = omega (arith, ints) in h)
    (let h : a < c = omega arith in h)

-- not lower than what is not lower
not_chain : (da db dc : ℤ) (a b c : ℕ) → IsNotLower da db a b → IsNotLower db dc b c → IsNotLower da dc a c
not_chain da db dc a b c m n = record {
  far = let f = m.far in let g = n.far in omega (arith, ints, f, g);
  late = λ l. (
      let f = m.far in
      let g = n.far in
      let u : da ≤ℤ db = omega (arith, ints, f, g, l) in
      let v : db ≤ℤ dc = omega (arith, ints, f, g, l) in
      let x = m.late u in
      let y = n.late v in
      omega (arith, x, y));
}

-- no point comes before itself
pub before_self : (q a : ℕ) → comes_before q a a ≡ false
before_self q a = not_lower_false q a a (record {
  far = same (distance q a);
  late =
      λ m. (let h : a ≤ a = omega arith in h);
})
  where
    -- a number is at most itself
    same : (x : ℤ) → x ≤ℤ x
    same x = omega (arith, ints)

-- what comes before a point that comes before another comes before it
pub before_chain : (q a b c : ℕ) → comes_before q a b ≡ true → comes_before q b c ≡ true → comes_before q a c ≡ true
before_chain q a b c t u = lower_true q a c (chain (distance q a) (distance q b) (distance q c) a b c
    (lower_from q a b t) (lower_from q b c u))

-- the same of what does not
pub not_before_chain : (q a b c : ℕ) → comes_before q a b ≡ false → comes_before q b c ≡ false →
    comes_before q a c ≡ false
not_before_chain q a b c t u = not_lower_false q a c (not_chain (distance q a) (distance q b) (distance q c) a b c
    (not_lower_from q a b t) (not_lower_from q b c u))

-- of two points one comes before the other
pub one_before : (q a b : ℕ) → ¬ (a ≡ b) → comes_before q a b ≡ false → comes_before q b a ≡ true
one_before q a b n f = lower_true q b a (other (distance q a) (distance q b) (not_lower_from q a b f))
  where
    -- in numbers
    other : (da db : ℤ) → IsNotLower da db a b → IsLower db da b a
    other da db m = elim (most_or_less db da) [
      | inl l ↦ nearer l
      | inr l ↦ as_near m.far (let h = m.late l in let k : b < a = omega (arith, h, n) in k)
    ]
      where
        -- less, or at most the other way
        most_or_less : (x y : ℤ) → (x <ℤ y) ⊎ (y ≤ℤ x)
        most_or_less x y = grind (arith, ints)

-- ---- the first of a list

-- the first of some, and then of it and of more
pub first_joined : (q p : ℕ) (l m : List ℕ) (x n : ℕ) → IsFirstOf q (p ∷ l) x → IsFirstOf q (x ∷ m) n →
    IsFirstOf q (p ∷ l ++ m) n
first_joined q p l m x n k f = record {
  among = elim f.among [
    | inl e ↦ subst (λ v. IsIn v (p ∷ l ++ m)) e (in_left x (p ∷ l) m k.among)
    | inr i ↦ in_right n (p ∷ l) m i
  ];
  first = λ y i. elim (from_append y (p ∷ l) m i) [
    | inl j ↦ not_before_chain q y x n (k.first y j) (f.first x (inl refl))
    | inr j ↦ f.first y (inr j)
  ];
}

-- one more member that comes before the first so far
pub one_first : (q p : ℕ) (l : List ℕ) (i x best : ℕ) → i < length l → x ≡ slice_index_or l i x →
    IsFirstOf q (p ∷ take i l) best → comes_before q x best ≡ true → IsFirstOf q (p ∷ take (i + 1) l) x
one_first q p l i x best h e k t = record {
  among = inr (subst (λ (m : List ℕ). IsIn x m) (sym (take_next l i x h e))
      (in_right x (take i l) (x ∷ []) (inl refl)));
  first = λ y m. elim m [
    | inl r ↦ subst (λ v. comes_before q v x ≡ false) r (after p (k.first p (inl refl)))
    | inr r ↦ elim (in_take_more l i x y h e r) [
      | inl j ↦ after y (k.first y (inr j))
      | inr j ↦ subst
          (λ v. comes_before q v x ≡ false) j (before_self q x)
    ]
  ];
}
  where
    -- what does not come before the first so far does not come before it
    after : (y : ℕ) → comes_before q y best ≡ false → comes_before q y x ≡ false
    after y f = false_if (comes_before q y x) (λ u. not_both (comes_before q y best) (before_chain q y x best u t) f)

-- one more that does not
pub one_later : (q p : ℕ) (l : List ℕ) (i x best : ℕ) → i < length l → x ≡ slice_index_or l i x →
    IsFirstOf q (p ∷ take i l) best → comes_before q x best ≡ false → IsFirstOf q (p ∷ take (i + 1) l) best
one_later q p l i x best h e k f = record {
  among = elim k.among [
    | inl r ↦ inl r
    | inr r ↦ inr (subst (λ (m : List ℕ). IsIn best m) (sym (take_next l i x h e))
        (in_left best (take i l) (x ∷ []) r))
  ];
  first = λ y m. elim m [
    | inl r ↦ k.first y (inl r)
    | inr r ↦ elim (in_take_more l i x y h e r) [
      | inl j ↦ k.first y (inr j)
      | inr j ↦ subst
          (λ v. comes_before q v best ≡ false) j f
    ]
  ];
}

-- ---- a walk ends

-- a number that is not negative, as a natural number
abbrev size : ℤ → ℕ
size (pos n) = n
size (negsuc n) = 0

-- what falls on a walk: the distance and the key as one number
abbrev pub rank : ℕ → ℕ → ℕ
rank q p = size (distance q p) * 2 ^ 42 + p

-- no distance is negative
pub not_negative : (q p : ℕ) → pos 0 ≤ℤ distance q p
unfolding distance square_of_step
not_negative q p = omega (
  arith,
  ints,
  square_nonneg (x_from q p),
  square_nonneg (y_from q p),
  square_nonneg (z_from q p),
)

-- a number that is not negative is its size
pub size_is : (z : ℤ) → pos 0 ≤ℤ z → pos (unsigned_abs z) ≡ z
size_is (pos n) h = refl
size_is (negsuc n) h = absurd (let g : ⊥ = omega (arith, ints, h) in g)

-- in numbers
falls : (da db : ℤ) (a b : ℕ) → pos 0 ≤ℤ da → pos 0 ≤ℤ db → a < 2 ^ 42 → IsLower da db a b →
    size da * 2 ^ 42 + a < size db * 2 ^ 42 + b
falls (pos m) (pos n) a b ha hb k (nearer l) = omega (arith, ints, l, k)
falls (pos m) (pos n) a b ha hb k (as_near l i) = omega (arith, ints, l, i)
falls (negsuc m) db a b ha hb k l = absurd (let h : ⊥ = omega (arith, ints, ha) in h)
falls (pos m) (negsuc n) a b ha hb k l = absurd (let h : ⊥ = omega (arith, ints, hb) in h)

-- it is less where the one comes before the other
pub rank_falls : (q a b : ℕ) → a < 2 ^ 42 → comes_before q a b ≡ true → rank q a < rank q b
rank_falls q a b k t = falls (distance q a) (distance q b) a b (not_negative q a) (not_negative q b) k
    (lower_from q a b t)
