-- The laws that the crate proves, as its public functions promise them.
use Rattle.std.specs.Prelude.{ℕ, ◌+◌, ◌*◌, ℤ, pos, ◌≡◌, ◌≤ℤ◌, ◌<ℤ◌, ◌+ℤ◌, ◌*ℤ◌, ◌⊎◌, List, IsTrue}
use Rattle.whole_ring.specs.Bounds.{IsWithin}
use Rattle.whole_ring.specs.Poly.{Expr, ◌⊗◌, ◌⊖◌, value, sum_of, is_nothing, Given, combined, Hold, Parts, total}
use Rattle.whole_ring.specs.Poly.{NotNegative, Positive}
use Rattle.whole_ring.specs.Signs.{sgn}

-- two expressions have the same value everywhere, where their difference is the polynomial 0
abbrev pub RingLaw : Type 0
RingLaw = (a b : Expr) → IsTrue (is_nothing (sum_of (a ⊖ b))) → (xs : List ℤ) → value a xs ≡ value b xs

-- two expressions have the same value wherever the given equations hold, where their
-- difference is a combination of those equations
abbrev pub CombinationLaw : Type 0
CombinationLaw = (a b : Expr) (g : Given) → IsTrue (is_nothing (sum_of (a ⊖ b ⊖ combined g))) → (xs : List ℤ) →
    Hold g xs → value a xs ≡ value b xs

-- a number e is not negative, where a positive multiple m times e is a sum of products of which no factor is negative
abbrev pub NonnegativeLaw : Type 0
NonnegativeLaw = (m e : Expr) (s : Parts) (g : Given) → IsTrue (is_nothing (sum_of (m ⊗ e ⊖ total s ⊖ combined g))) →
    (xs : List ℤ) → Hold g xs → pos 0 <ℤ value m xs → NotNegative s xs → pos 0 ≤ℤ value e xs

-- the same for a positive number: the last product is positive, and no other is negative
abbrev pub PositiveLaw : Type 0
PositiveLaw = (m e : Expr) (s : Parts) (g : Given) → IsTrue (is_nothing (sum_of (m ⊗ e ⊖ total s ⊖ combined g))) →
    (xs : List ℤ) → Hold g xs → pos 0 <ℤ value m xs → Positive s xs → pos 0 <ℤ value e xs

-- the sign of a product is the product of the signs
abbrev pub SignOfProduct : Type 0
SignOfProduct = (a b : ℤ) → sgn (a *ℤ b) ≡ sgn a *ℤ sgn b

-- a product is 0 only where a factor is
abbrev pub ZeroFactor : Type 0
ZeroFactor = (a b : ℤ) → a *ℤ b ≡ pos 0 → (a ≡ pos 0) ⊎ (b ≡ pos 0)

-- the size of a sum is at most the sum of the sizes
abbrev pub SizeOfSum : Type 0
SizeOfSum = (m n : ℕ) (x y : ℤ) → IsWithin m x → IsWithin n y → IsWithin (m + n) (x +ℤ y)

-- the size of a product is at most the product of the sizes
abbrev pub SizeOfProduct : Type 0
SizeOfProduct = (m n : ℕ) (x y : ℤ) → IsWithin m x → IsWithin n y → IsWithin (m * n) (x *ℤ y)
