-- The laws of the perturbed heights, as the functions of `laws` promise them.
-- Those that need distinct points to lie in distinct places are about keys below 2^42.
use Rattle.std.specs.Prelude.{ℕ, ℤ, pos, neg_ℤ, ◌≡◌, ◌≢◌, ◌<◌, ◌+◌, ◌*◌, ◌^◌, ◌<ℤ◌, ◌≤ℤ◌, false, ◌==◌, if◌then◌else◌}
use Rattle.whole_ring.specs.Signs.{sgn}
use Rattle.point_order.specs.Coordinates.{IsKey}
use Rattle.point_order.specs.Orientation.{orientation, is_flat}
use Rattle.point_order.specs.Heights.{base, top, square_of, height, sphere_polynomial, out}
use Rattle.point_order.specs.Sets.{AreFive}

-- the five numbers are keys
abbrev pub AreFiveKeys : ℕ → ℕ → ℕ → ℕ → ℕ → Type 0
AreFiveKeys a b c d e = IsKey a × IsKey b × IsKey c × IsKey d × IsKey e

-- what the height of p is multiplied by in the lifted determinant of five points; 0 where p is none of them
abbrev pub coefficient : ℕ → ℕ → ℕ → ℕ → ℕ → ℕ → ℤ
coefficient a b c d e p =
    if p == e then orientation a b c d
    else (if p == d then neg_ℤ (orientation a b c e)
    else (if p == c then orientation a b d e
    else (if p == b then neg_ℤ (orientation a c d e)
    else (if p == a then orientation b c d e else pos 0))))

-- p is the greatest point whose coefficient is not 0
abbrev pub IsDeciding : ℕ → ℕ → ℕ → ℕ → ℕ → ℕ → Type 0
IsDeciding a b c d e p =
    (coefficient a b c d e p ≢ pos 0) × ((q : ℕ) → p < q → coefficient a b c d e q ≡ pos 0)

-- The sign rule: where the in-sphere polynomial is not 0, the perturbation does not change its sign.
abbrev pub PlainSign : Type 0
PlainSign = (a b c d e : ℕ) → AreFiveKeys a b c d e → sphere_polynomial a b c d e ≢ pos 0 →
    sgn (out a b c d e) ≡ sgn (sphere_polynomial a b c d e)

-- Where it is 0, the sign is that of the coefficient of the greatest point whose coefficient is not 0.
abbrev pub TieSign : Type 0
TieSign = (a b c d e p : ℕ) → AreFive a b c d e → sphere_polynomial a b c d e ≡ pos 0 → IsDeciding a b c d e p →
    sgn (out a b c d e) ≡ sgn (coefficient a b c d e p)

-- There is such a point, where the first four are independent.
abbrev pub TieDecided : Type 0
TieDecided = (a b c d e : ℕ) → AreFive a b c d e → is_flat a b c d ≡ false → (p : ℕ) × IsDeciding a b c d e p

-- No tie is left: at five points of which the first four are independent, the determinant is not 0.
abbrev pub NeverZero : Type 0
NeverZero = (a b c d e : ℕ) → AreFiveKeys a b c d e → AreFive a b c d e → is_flat a b c d ≡ false →
    out a b c d e ≢ pos 0

-- Where the perturbed determinant is positive, the plain polynomial is not negative; and the mirror.
abbrev pub PlainNotBelow : Type 0
PlainNotBelow = (a b c d e : ℕ) → AreFiveKeys a b c d e → pos 0 <ℤ out a b c d e → pos 0 ≤ℤ sphere_polynomial a b c d e

abbrev pub PlainNotAbove : Type 0
PlainNotAbove = (a b c d e : ℕ) → AreFiveKeys a b c d e → out a b c d e <ℤ pos 0 → sphere_polynomial a b c d e ≤ℤ pos 0

-- The height is |p|^2 times a great number, plus a part strictly between 0 and that number.
abbrev pub HeightParts : Type 0
HeightParts =
    (p : ℕ) → IsKey p → (height p ≡ square_of p * base ^ top + base ^ p) × (0 < base ^ p) × (base ^ p < base ^ top)

-- That part rises with the key.
abbrev pub PartRises : Type 0
PartRises = (p q : ℕ) → p < q → base ^ p < base ^ q
