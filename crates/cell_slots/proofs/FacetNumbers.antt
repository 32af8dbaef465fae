-- Which of its facets a facet is of a cell, told by the keys.
use Rattle.std.proofs.Common.{rules, ◌≡◌, ℕ, ◌+◌, ◌-◌, ◌%◌, ◌<◌, ◌≤◌, arith, sym, ◌∙◌}
use Rattle.point_order.specs.Facets.{facets_of}
use Rattle.point_order.specs.Sets.{IsIn}
use Rattle.cell_slots.specs.Corners.{AreCellKeys, AreFaceKeys, cell_of, facet_of}

-- a facet lacks one of the four points
pub lacks_one : {P : Type 0} (a b c d x y z : ℕ) → AreCellKeys a b c d → AreFaceKeys x y z →
    IsIn (facet_of x y z) (facets_of (cell_of a b c d)) → (x ≡ b → y ≡ c → z ≡ d → P) → (x ≡ a → y ≡ c → z ≡ d → P) →
    (x ≡ a → y ≡ b → z ≡ d → P) → (x ≡ a → y ≡ b → z ≡ c → P) → P
lacks_one a b c d x y z k f m p q r s = search rules

-- the missing point, by the sums of the keys
missed : (a b c d x y z n : ℕ) → AreCellKeys a b c d → x + y + z + n ≡ a + b + c + d → n ≤ d →
    (a + b + c + d + (18446744073709551616 - (x + y + z))) % 18446744073709551616 ≡ n
missed a b c d x y z n k e l = omega (arith, e, l, k.first, k.second, k.third, k.last)

-- the points that stay where one is missing are those of the facet
pub stay : (a b c d x y z p q r : ℕ) → AreCellKeys a b c d → AreFaceKeys x y z →
    IsIn (facet_of x y z) (facets_of (cell_of a b c d)) → (m : ℕ) →
    m ≡ (a + b + c + d + (18446744073709551616 - (x + y + z))) % 18446744073709551616 →
    (a < m → p ≡ a) → (m ≤ a → p ≡ b) → (b < m → q ≡ b) → (m ≤ b → q ≡ c) → (c < m → r ≡ c) → (m ≤ c → r ≡ d) →
    (p ≡ x) × (q ≡ y) × (r ≡ z)
stay a b c d x y z p q r k f i m e pa pb qb qc rc rd = lacks_one a b c d x y z k f i
    (λ s t u.
    let n : m ≡ a =
    e ∙ missed a b c d x y z a k (omega (arith, s, t, u)) (omega (arith, k.first, k.second, k.third)) in (
      pb (omega (arith, n)) ∙ sym s,
      qc (omega (arith, n, k.first)) ∙ sym t,
      rd (omega (arith, n, k.first, k.second)) ∙ sym u,
    ))
    (λ s t u.
    let n : m ≡ b = e ∙ missed a b c d x y z b k (omega (arith, s, t, u)) (omega (arith, k.second, k.third)) in
    (pa (omega (arith, n, k.first)) ∙ sym s, qc (omega (arith, n)) ∙ sym t, rd (omega (arith, n, k.second)) ∙ sym u))
    (λ s t u.
    let n : m ≡ c = e ∙ missed a b c d x y z c k (omega (arith, s, t, u)) (omega (arith, k.third)) in (
      pa (omega (arith, n, k.first, k.second)) ∙ sym s,
      qb (omega (arith, n, k.second)) ∙ sym t,
      rd (omega (arith, n)) ∙ sym u,
    ))
    (λ s t u.
    let n : m ≡ d = e ∙ missed a b c d x y z d k (omega (arith, s, t, u)) (omega arith) in (
      pa (omega (arith, n, k.first, k.second, k.third)) ∙ sym s,
      qb (omega (arith, n, k.second, k.third)) ∙ sym t,
      rc (omega (arith, n, k.third)) ∙ sym u,
    ))
