-- The laws of products of whole numbers that std lacks. It has `*ℤ_comm`, `+ℤ_assoc`, `+ℤ_comm`, `+ℤ_invr` and
-- `neg_ℤ-+ℤ`, in Rattle.std.proofs.Math.IntN.
use Rattle.std.specs.Prelude.{ℤ, ◌+ℤ◌, ◌*ℤ◌, neg_ℤ, ◌≡◌, ◌*◌}
use Rattle.std.proofs.Common.{arith, ap}
use Rattle.std.proofs.lemmas.Int.{ints}
use borrow.Author.Differences.{up, down, sum_is_lem, product_is, neg_is}

-- a product with a sum on the right is the sum of the products
pub mul_add : (a b c : ℤ) → a *ℤ (b +ℤ c) ≡ a *ℤ b +ℤ a *ℤ c
mul_add a b c = omega (arith, ints, ap (λ n. up a * n) (sum_is_lem b c), ap (λ n. down a * n) (sum_is_lem b c))

-- a product with a sum on the left is the sum of the products
pub add_mul : (a b c : ℤ) → (a +ℤ b) *ℤ c ≡ a *ℤ c +ℤ b *ℤ c
add_mul a b c = omega (arith, ints, ap (λ n. n * up c) (sum_is_lem a b), ap (λ n. n * down c) (sum_is_lem a b))

-- three factors may be grouped either way
pub mul_assoc : (a b c : ℤ) → (a *ℤ b) *ℤ c ≡ a *ℤ (b *ℤ c)
mul_assoc a b c =
    let p = product_is a b in
    let q = product_is b c in
    omega (
      arith,
      ints,
      ap (λ n. n * up c) p.0,
      ap (λ n. n * up c) p.1,
      ap (λ n. n * down c) p.0,
      ap (λ n. n * down c) p.1,
      ap (λ n. up a * n) q.0,
      ap (λ n. up a * n) q.1,
      ap (λ n. down a * n) q.0,
      ap (λ n. down a * n) q.1,
    )

-- a negated right factor negates the product
pub mul_neg : (a b : ℤ) → a *ℤ neg_ℤ b ≡ neg_ℤ (a *ℤ b)
mul_neg a b =
    let n = neg_is b in
    omega (
      arith,
      ints,
      ap (λ n. up a * n) n.0,
      ap (λ n. up a * n) n.1,
      ap (λ n. down a * n) n.0,
      ap (λ n. down a * n) n.1,
    )

-- a negated left factor negates the product
pub neg_mul : (a b : ℤ) → neg_ℤ a *ℤ b ≡ neg_ℤ (a *ℤ b)
neg_mul a b =
    let n = neg_is a in
    omega (
      arith,
      ints,
      ap (λ n. n * up b) n.0,
      ap (λ n. n * up b) n.1,
      ap (λ n. n * down b) n.0,
      ap (λ n. n * down b) n.1,
    )
