-- The sign of a sum of multiples of powers of one base, told without computing a power.
use Rattle.std.proofs.Common.{◌≡◌, ℕ, suc, ◌+◌, ◌*◌, ◌^◌, ◌<◌, ◌≤◌, arith, sym, subst, ap, ◌∙◌, ℤ, pos, ◌+ℤ◌, ◌-ℤ◌}
use Rattle.std.proofs.Common.{◌*ℤ◌, ◌<ℤ◌}
use Rattle.std.proofs.lemmas.Int.{ints, unsigned_abs-mul}
use Rattle.std.specs.Int.RustNames.{unsigned_abs}
use Rattle.std.proofs.Math.Nat.{pow-suc, pow-le-pow_right, mul-le-mul_right}
use lib.IntN.{negsuc, neg_ℤ}
use Rattle.whole_ring.proofs.Cited.{add_mul, mul_add, mul_assoc, neg_mul}
use Rattle.whole_ring.specs.Signs.{HasSignOf}

-- ---- a multiple of p, and less than p

-- a positive multiple of p, and less than p, is positive
lead_pos : (n p : ℕ) (t : ℤ) → 0 < n → unsigned_abs t < p → pos 0 <ℤ (pos n *ℤ pos p +ℤ t)
lead_pos n p t h k =
    let e : p ≤ n * p = grind arith in omega (arith, ints)

-- a negative multiple of p, and less than p, is negative
lead_neg : (n p : ℕ) (t : ℤ) → unsigned_abs t < p → (negsuc n *ℤ pos p +ℤ t) <ℤ pos 0
lead_neg n p t k =
    let e : p ≤ suc n * p = grind arith in omega (arith, ints)

-- s * p + t has the sign of s, where |t| < p
pub lead_sign : (s : ℤ) (p : ℕ) (t : ℤ) → unsigned_abs t < p → HasSignOf s (s *ℤ pos p +ℤ t)
lead_sign (pos n) p t k =
    record { positive = λ h. lead_pos n p t (omega (arith, ints)) k; negative = λ h. absurd (omega (arith, ints)) }
lead_sign (negsuc n) p t k =
    record { positive = λ h. absurd (omega (arith, ints)); negative = λ h. lead_neg n p t k }

-- ---- a term of a lower power is small

-- a tenth of b, times q, is at most a tenth of r, where q * b is at most r
scaled : (m b q r : ℕ) → m * 10 ≤ b → q * b ≤ r → m * q * 10 ≤ r
scaled m b q r h k = let e : m * 10 * q ≤ b * q = mul-le-mul_right q h in omega arith

-- |c| * 10 ≤ b, and i < k: ten times c * b^i is at most b^k
pub low_term : (b : ℕ) (c : ℤ) (i k : ℕ) → 0 < b → unsigned_abs c * 10 ≤ b → i < k →
    unsigned_abs (c *ℤ pos (b ^ i)) * 10 ≤ b ^ k
low_term b c i k z h l =
    let e : b ^ suc i ≤ b ^ k = pow-le-pow_right z l in
    let f : b ^ i * b ≤ b ^ k = subst (λ (v : ℕ). v ≤ b ^ k) (pow-suc b i) e in
    let P : ℕ → Type 0 = λ (v : ℕ). v * 10 ≤ b ^ k in
    subst P (sym (unsigned_abs-mul c (pos (b ^ i)))) (scaled (unsigned_abs c) b (b ^ i) (b ^ k) h f)

-- a term whose coefficient is 0 is smaller still
pub no_term : (b : ℕ) (c : ℤ) (i k : ℕ) → c ≡ pos 0 → unsigned_abs (c *ℤ pos (b ^ i)) * 10 ≤ b ^ k
no_term b c i k e =
    rw e (let f : unsigned_abs (pos 0 *ℤ pos (b ^ i)) ≡ 0 * b ^ i = unsigned_abs-mul (pos 0) (pos (b ^ i)) in
    omega arith)

-- five terms that are each at most a tenth of p are together below p
pub five_low : (t u v w x : ℤ) (p : ℕ) → 0 < p → unsigned_abs t * 10 ≤ p → unsigned_abs u * 10 ≤ p →
    unsigned_abs v * 10 ≤ p → unsigned_abs w * 10 ≤ p → unsigned_abs x * 10 ≤ p →
    unsigned_abs (t +ℤ u +ℤ v +ℤ w +ℤ x) < p
five_low t u v w x p z a b c d e = omega (arith, ints)

-- and four
pub four_low : (u v w x : ℤ) (p : ℕ) → 0 < p → unsigned_abs u * 10 ≤ p → unsigned_abs v * 10 ≤ p →
    unsigned_abs w * 10 ≤ p → unsigned_abs x * 10 ≤ p → unsigned_abs (u +ℤ v +ℤ w +ℤ x) < p
four_low u v w x p z b c d e = omega (arith, ints)

-- ---- heights n * p + q, split by p

-- a height that is multiplied
mul_split : (s : ℤ) (n p q : ℕ) → s *ℤ pos (n * p + q) ≡ s *ℤ pos n *ℤ pos p +ℤ s *ℤ pos q
mul_split s n p q =
    mul_add s (pos (n * p)) (pos q) ∙ ap (λ (v : ℤ). v +ℤ s *ℤ pos q) (sym (mul_assoc s (pos n) (pos p)))

-- the products with p are gathered
gather : (p : ℤ) (s t u v w : ℤ) → (s -ℤ t +ℤ u -ℤ v +ℤ w) *ℤ p ≡ s *ℤ p -ℤ t *ℤ p +ℤ u *ℤ p -ℤ v *ℤ p +ℤ w *ℤ p
gather p s t u v w = simp (add_mul, neg_mul)

-- five sums, their first parts before their second ones
regroup : (a b c d e f g h i j : ℤ) → (a +ℤ b) -ℤ (c +ℤ d) +ℤ (e +ℤ f) -ℤ (g +ℤ h) +ℤ (i +ℤ j) ≡ (a -ℤ c +ℤ e -ℤ g +ℤ i)
    +ℤ (b +ℤ neg_ℤ d +ℤ f +ℤ neg_ℤ h +ℤ j)
regroup a b c d e f g h i j = omega (arith, ints)

-- an alternating sum of multiples of heights is one of multiples of their great parts and one of their small parts
pub split_heights : (p : ℕ) (s t u v w : ℤ) (n₁ n₂ n₃ n₄ n₅ q₁ q₂ q₃ q₄ q₅ : ℕ) →
    s *ℤ pos (n₁ * p + q₁) -ℤ t *ℤ pos (n₂ * p + q₂) +ℤ u *ℤ pos (n₃ * p + q₃) -ℤ v *ℤ pos (n₄ * p + q₄)
    +ℤ w *ℤ pos (n₅ * p + q₅) ≡ (s *ℤ pos n₁ -ℤ t *ℤ pos n₂ +ℤ u *ℤ pos n₃ -ℤ v *ℤ pos n₄ +ℤ w *ℤ pos n₅) *ℤ pos p
    +ℤ (s *ℤ pos q₁ +ℤ neg_ℤ t *ℤ pos q₂ +ℤ u *ℤ pos q₃ +ℤ neg_ℤ v *ℤ pos q₄ +ℤ w *ℤ pos q₅)
split_heights p s t u v w n₁ n₂ n₃ n₄ n₅ q₁ q₂ q₃ q₄ q₅ =
    simp (mul_split, neg_mul, gather) (regroup (s *ℤ pos n₁ *ℤ pos p) (s *ℤ pos q₁) (t *ℤ pos n₂ *ℤ pos p) (t *ℤ pos q₂)
    (u *ℤ pos n₃ *ℤ pos p) (u *ℤ pos q₃) (v *ℤ pos n₄ *ℤ pos p) (v *ℤ pos q₄) (w *ℤ pos n₅ *ℤ pos p) (w *ℤ pos q₅))
