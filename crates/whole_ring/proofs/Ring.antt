-- Equations and signs by computing. In each call the last argument is `tt`, a test that computes to true exactly where
-- the claim follows; the list gives the variables of the expressions their values.     ring a b xs tt                a
-- and b have the same value at xs     ring_from a b g xs h tt       the same, from given equations, each times a factor
-- nonneg_from m e s g xs .. tt  m times e is the sum of products s, none negative, and m is positive: so e is not
-- negative     pos_from m e s g xs .. tt     the same with a positive last product: so e is positive
use Rattle.std.specs.Prelude.{ℤ, pos, ◌+ℤ◌, neg_ℤ, ◌≡◌, ◌≤ℤ◌, ◌<ℤ◌, List, T}
use Rattle.std.proofs.Common.{arith, sym, ◌∙◌, subst}
use Rattle.std.proofs.lemmas.Int.{ints}
use Rattle.whole_ring.proofs.Signs.{mul_pos, mul_nonneg, pos_of_mul_pos, nonneg_of_mul_nonneg}
use Rattle.whole_ring.proofs.Poly.{sum_of_is, is_nothing_is, combined_is}
use Rattle.whole_ring.specs.Poly.{Expr, ◌⊗◌, ◌⊖◌, value, sum_of, is_nothing, Given, combined, Hold, Parts, end, part}
use Rattle.whole_ring.specs.Poly.{total, NotNegative, Positive}

-- numbers whose difference is 0 are equal
same : (a b : ℤ) → a +ℤ neg_ℤ b ≡ pos 0 → a ≡ b
same a b e = omega (arith, ints)

-- the same, where something that is 0 is taken away too
same_but : (a b c : ℤ) → c ≡ pos 0 → a +ℤ neg_ℤ b +ℤ neg_ℤ c ≡ pos 0 → a ≡ b
same_but a b c z e = omega (arith, ints)

-- an identity
pub ring : (a b : Expr) (xs : List ℤ) → T (is_nothing (sum_of (a ⊖ b))) → value a xs ≡ value b xs
ring a b xs t = same (value a xs) (value b xs) (sym (sum_of_is (a ⊖ b) xs) ∙ is_nothing_is (sum_of (a ⊖ b)) xs t)

-- an equation that follows from given ones, each times its factor
pub ring_from : (a b : Expr) (g : Given) (xs : List ℤ) → Hold g xs → T (is_nothing (sum_of (a ⊖ b ⊖ combined g))) →
    value a xs ≡ value b xs
ring_from a b g xs h t =
    same_but (value a xs) (value b xs) (value (combined g) xs) (combined_is g xs h)
    (sym (sum_of_is (a ⊖ b ⊖ combined g) xs) ∙ is_nothing_is (sum_of (a ⊖ b ⊖ combined g)) xs t)

-- the sum of products has the sign of its parts
total_nonneg : (s : Parts) (xs : List ℤ) → NotNegative s xs → pos 0 ≤ℤ value (total s) xs
total_nonneg (end k e) xs h = mul_nonneg (value k xs) (value e xs) h.0 h.1
total_nonneg (part k e r) xs h =
    omega (arith, ints, mul_nonneg (value k xs) (value e xs) h.0 h.1, total_nonneg r xs h.2)

-- the sum of products is positive, where the last product is and no other is negative
total_pos : (s : Parts) (xs : List ℤ) → Positive s xs → pos 0 <ℤ value (total s) xs
total_pos (end k e) xs h = mul_pos (value k xs) (value e xs) h.0 h.1
total_pos (part k e r) xs h = omega (arith, ints, mul_nonneg (value k xs) (value e xs) h.0 h.1, total_pos r xs h.2)

-- a number is not negative, where a positive multiple of it is a sum of products that are not negative
pub nonneg_from : (m e : Expr) (s : Parts) (g : Given) (xs : List ℤ) → pos 0 <ℤ value m xs → NotNegative s xs →
    Hold g xs → T (is_nothing (sum_of (m ⊗ e ⊖ total s ⊖ combined g))) → pos 0 ≤ℤ value e xs
nonneg_from m e s g xs hm hs hg t =
    nonneg_of_mul_nonneg (value m xs) (value e xs) hm (subst (λ n. pos 0 ≤ℤ n)
    (sym (ring_from (m ⊗ e) (total s) g xs hg t)) (total_nonneg s xs hs))

-- a number is positive, where a positive multiple of it is a sum of products, the last positive and the others not
-- negative
pub pos_from : (m e : Expr) (s : Parts) (g : Given) (xs : List ℤ) → pos 0 <ℤ value m xs → Positive s xs → Hold g xs →
    T (is_nothing (sum_of (m ⊗ e ⊖ total s ⊖ combined g))) → pos 0 <ℤ value e xs
pos_from m e s g xs hm hs hg t =
    pos_of_mul_pos (value m xs) (value e xs) hm (subst (λ n. pos 0 <ℤ n) (sym (ring_from (m ⊗ e) (total s) g xs hg t))
    (total_pos s xs hs))
