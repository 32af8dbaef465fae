-- Exchanging arguments of an orientation and of a lifted determinant.
use Rattle.std.specs.Prelude.{ℤ, pos, neg_ℤ, ◌≡◌, List, [], ◌∷◌}
use Rattle.whole_ring.specs.Poly.{lit, minus}
use Rattle.whole_ring.proofs.Cited.{ring}
use Rattle.conv_laws.specs.Places.{Place, orient, Lifted, lifted, minor, triple}
use Rattle.conv_laws.specs.Alternation.{OrientSwaps, OrientEvenOrders, OrientRepeats, LiftedSwaps, LiftedOrders}
use Rattle.conv_laws.specs.Alternation.{LiftedRepeats}
use Rattle.conv_laws.proofs.Written.{onto, all_of, o, raised}

-- the coordinates of four places
abbrev four : Place → Place → Place → Place → List ℤ
four a b c d = onto (a ∷ b ∷ c ∷ d ∷ []) []

-- ---- orientation

-- the first two are exchanged
pub orient_swap12 : (a b c d : Place) → orient b a c d ≡ neg_ℤ (orient a b c d)
unfolding orient triple minor
orient_swap12 a b c d = ring (o 1 0 2 3) (minus (o 0 1 2 3)) (four a b c d) tt

-- the second and the third are exchanged
pub orient_swap23 : (a b c d : Place) → orient a c b d ≡ neg_ℤ (orient a b c d)
unfolding orient triple minor
orient_swap23 a b c d = ring (o 0 2 1 3) (minus (o 0 1 2 3)) (four a b c d) tt

-- the last two are exchanged
pub orient_swap34 : (a b c d : Place) → orient a b d c ≡ neg_ℤ (orient a b c d)
unfolding orient triple minor
orient_swap34 a b c d = ring (o 0 1 3 2) (minus (o 0 1 2 3)) (four a b c d) tt

-- even orders
pub orient_bcad : (a b c d : Place) → orient b c a d ≡ orient a b c d
unfolding orient triple minor
orient_bcad a b c d = ring (o 1 2 0 3) (o 0 1 2 3) (four a b c d) tt

-- an even order
pub orient_cabd : (a b c d : Place) → orient c a b d ≡ orient a b c d
unfolding orient triple minor
orient_cabd a b c d = ring (o 2 0 1 3) (o 0 1 2 3) (four a b c d) tt

-- an even order
pub orient_acdb : (a b c d : Place) → orient a c d b ≡ orient a b c d
unfolding orient triple minor
orient_acdb a b c d = ring (o 0 2 3 1) (o 0 1 2 3) (four a b c d) tt

-- an even order
pub orient_adbc : (a b c d : Place) → orient a d b c ≡ orient a b c d
unfolding orient triple minor
orient_adbc a b c d = ring (o 0 3 1 2) (o 0 1 2 3) (four a b c d) tt

-- an even order
pub orient_bdca : (a b c d : Place) → orient b d c a ≡ orient a b c d
unfolding orient triple minor
orient_bdca a b c d = ring (o 1 3 2 0) (o 0 1 2 3) (four a b c d) tt

-- an even order
pub orient_badc : (a b c d : Place) → orient b a d c ≡ orient a b c d
unfolding orient triple minor
orient_badc a b c d = ring (o 1 0 3 2) (o 0 1 2 3) (four a b c d) tt

-- two places are one: the numbers say which
pub orient_same12 : (a b c : Place) → orient a a b c ≡ pos 0
unfolding orient triple minor
orient_same12 a b c = ring (o 0 0 1 2) (lit (pos 0)) (onto (a ∷ b ∷ c ∷ []) []) tt

-- the first and the third are one
pub orient_same13 : (a b c : Place) → orient a b a c ≡ pos 0
unfolding orient triple minor
orient_same13 a b c = ring (o 0 1 0 2) (lit (pos 0)) (onto (a ∷ b ∷ c ∷ []) []) tt

-- the first and the fourth are one
pub orient_same14 : (a b c : Place) → orient a b c a ≡ pos 0
unfolding orient triple minor
orient_same14 a b c = ring (o 0 1 2 0) (lit (pos 0)) (onto (a ∷ b ∷ c ∷ []) []) tt

-- the second and the third are one
pub orient_same23 : (a b c : Place) → orient b a a c ≡ pos 0
unfolding orient triple minor
orient_same23 a b c = ring (o 1 0 0 2) (lit (pos 0)) (onto (a ∷ b ∷ c ∷ []) []) tt

-- the second and the fourth are one
pub orient_same24 : (a b c : Place) → orient b a c a ≡ pos 0
unfolding orient triple minor
orient_same24 a b c = ring (o 1 0 2 0) (lit (pos 0)) (onto (a ∷ b ∷ c ∷ []) []) tt

-- the third and the fourth are one
pub orient_same34 : (a b c : Place) → orient b c a a ≡ pos 0
unfolding orient triple minor
orient_same34 a b c = ring (o 1 2 0 0) (lit (pos 0)) (onto (a ∷ b ∷ c ∷ []) []) tt

-- ---- the lifted determinant

-- the coordinates and heights of five lifted places
abbrev five : Lifted → Lifted → Lifted → Lifted → Lifted → List ℤ
five a b c d e = all_of (a ∷ b ∷ c ∷ d ∷ e ∷ [])

-- neighbours are exchanged
pub lifted_swap12 : (a b c d e : Lifted) → lifted b a c d e ≡ neg_ℤ (lifted a b c d e)
unfolding orient lifted triple minor
lifted_swap12 a b c d e = ring (raised 15 1 0 2 3 4) (minus (raised 15 0 1 2 3 4)) (five a b c d e) tt

-- the second and the third
pub lifted_swap23 : (a b c d e : Lifted) → lifted a c b d e ≡ neg_ℤ (lifted a b c d e)
unfolding orient lifted triple minor
lifted_swap23 a b c d e = ring (raised 15 0 2 1 3 4) (minus (raised 15 0 1 2 3 4)) (five a b c d e) tt

-- the third and the fourth
pub lifted_swap34 : (a b c d e : Lifted) → lifted a b d c e ≡ neg_ℤ (lifted a b c d e)
unfolding orient lifted triple minor
lifted_swap34 a b c d e = ring (raised 15 0 1 3 2 4) (minus (raised 15 0 1 2 3 4)) (five a b c d e) tt

-- the last two
pub lifted_swap45 : (a b c d e : Lifted) → lifted a b c e d ≡ neg_ℤ (lifted a b c d e)
unfolding orient lifted triple minor
lifted_swap45 a b c d e = ring (raised 15 0 1 2 4 3) (minus (raised 15 0 1 2 3 4)) (five a b c d e) tt

-- the third and the fifth are exchanged
pub lifted_swap35 : (a b c d e : Lifted) → lifted a b e d c ≡ neg_ℤ (lifted a b c d e)
unfolding orient lifted triple minor
lifted_swap35 a b c d e = ring (raised 15 0 1 4 3 2) (minus (raised 15 0 1 2 3 4)) (five a b c d e) tt

-- even orders of the first four
pub lifted_bcad : (a b c d e : Lifted) → lifted b c a d e ≡ lifted a b c d e
unfolding orient lifted triple minor
lifted_bcad a b c d e = ring (raised 15 1 2 0 3 4) (raised 15 0 1 2 3 4) (five a b c d e) tt

-- an even order of the first four
pub lifted_cabd : (a b c d e : Lifted) → lifted c a b d e ≡ lifted a b c d e
unfolding orient lifted triple minor
lifted_cabd a b c d e = ring (raised 15 2 0 1 3 4) (raised 15 0 1 2 3 4) (five a b c d e) tt

-- an even order of the first four
pub lifted_acdb : (a b c d e : Lifted) → lifted a c d b e ≡ lifted a b c d e
unfolding orient lifted triple minor
lifted_acdb a b c d e = ring (raised 15 0 2 3 1 4) (raised 15 0 1 2 3 4) (five a b c d e) tt

-- an even order of the first four
pub lifted_adbc : (a b c d e : Lifted) → lifted a d b c e ≡ lifted a b c d e
unfolding orient lifted triple minor
lifted_adbc a b c d e = ring (raised 15 0 3 1 2 4) (raised 15 0 1 2 3 4) (five a b c d e) tt

-- an even order of the first four
pub lifted_bdca : (a b c d e : Lifted) → lifted b d c a e ≡ lifted a b c d e
unfolding orient lifted triple minor
lifted_bdca a b c d e = ring (raised 15 1 3 2 0 4) (raised 15 0 1 2 3 4) (five a b c d e) tt

-- two of the five are one: the numbers say which
pub lifted_same12 : (a b c d : Lifted) → lifted a a b c d ≡ pos 0
unfolding orient lifted triple minor
lifted_same12 a b c d = ring (raised 12 0 0 1 2 3) (lit (pos 0)) (all_of (a ∷ b ∷ c ∷ d ∷ [])) tt

-- the first and the third are one
pub lifted_same13 : (a b c d : Lifted) → lifted a b a c d ≡ pos 0
unfolding orient lifted triple minor
lifted_same13 a b c d = ring (raised 12 0 1 0 2 3) (lit (pos 0)) (all_of (a ∷ b ∷ c ∷ d ∷ [])) tt

-- the first and the fourth are one
pub lifted_same14 : (a b c d : Lifted) → lifted a b c a d ≡ pos 0
unfolding orient lifted triple minor
lifted_same14 a b c d = ring (raised 12 0 1 2 0 3) (lit (pos 0)) (all_of (a ∷ b ∷ c ∷ d ∷ [])) tt

-- the first and the fifth are one
pub lifted_same15 : (a b c d : Lifted) → lifted a b c d a ≡ pos 0
unfolding orient lifted triple minor
lifted_same15 a b c d = ring (raised 12 0 1 2 3 0) (lit (pos 0)) (all_of (a ∷ b ∷ c ∷ d ∷ [])) tt

-- the second and the third are one
pub lifted_same23 : (a b c d : Lifted) → lifted b a a c d ≡ pos 0
unfolding orient lifted triple minor
lifted_same23 a b c d = ring (raised 12 1 0 0 2 3) (lit (pos 0)) (all_of (a ∷ b ∷ c ∷ d ∷ [])) tt

-- the second and the fourth are one
pub lifted_same24 : (a b c d : Lifted) → lifted b a c a d ≡ pos 0
unfolding orient lifted triple minor
lifted_same24 a b c d = ring (raised 12 1 0 2 0 3) (lit (pos 0)) (all_of (a ∷ b ∷ c ∷ d ∷ [])) tt

-- the second and the fifth are one
pub lifted_same25 : (a b c d : Lifted) → lifted b a c d a ≡ pos 0
unfolding orient lifted triple minor
lifted_same25 a b c d = ring (raised 12 1 0 2 3 0) (lit (pos 0)) (all_of (a ∷ b ∷ c ∷ d ∷ [])) tt

-- the third and the fourth are one
pub lifted_same34 : (a b c d : Lifted) → lifted b c a a d ≡ pos 0
unfolding orient lifted triple minor
lifted_same34 a b c d = ring (raised 12 1 2 0 0 3) (lit (pos 0)) (all_of (a ∷ b ∷ c ∷ d ∷ [])) tt

-- the third and the fifth are one
pub lifted_same35 : (a b c d : Lifted) → lifted b c a d a ≡ pos 0
unfolding orient lifted triple minor
lifted_same35 a b c d = ring (raised 12 1 2 0 3 0) (lit (pos 0)) (all_of (a ∷ b ∷ c ∷ d ∷ [])) tt

-- the fourth and the fifth are one
pub lifted_same45 : (a b c d : Lifted) → lifted b c d a a ≡ pos 0
unfolding orient lifted triple minor
lifted_same45 a b c d = ring (raised 12 1 2 3 0 0) (lit (pos 0)) (all_of (a ∷ b ∷ c ∷ d ∷ [])) tt

-- ---- the laws

-- exchanges of neighbours turn the sign
pub orient_swaps : OrientSwaps
orient_swaps a b c d = (orient_swap12 a b c d, orient_swap23 a b c d, orient_swap34 a b c d)

-- even orders keep it
pub orient_even_orders : OrientEvenOrders
orient_even_orders a b c d = (
  orient_bcad a b c d,
  orient_cabd a b c d,
  orient_acdb a b c d,
  orient_adbc a b c d,
  orient_bdca a b c d,
  orient_badc a b c d,
)

-- 0 where two are one
pub orient_repeats : OrientRepeats
orient_repeats a b c = (
  orient_same12 a b c,
  orient_same13 a b c,
  orient_same14 a b c,
  orient_same23 a b c,
  orient_same24 a b c,
  orient_same34 a b c,
)

-- exchanges of neighbours turn the sign
pub lifted_swaps : LiftedSwaps
lifted_swaps a b c d e =
    (lifted_swap12 a b c d e, lifted_swap23 a b c d e, lifted_swap34 a b c d e, lifted_swap45 a b c d e)

-- even orders keep it, and the exchange of third and fifth turns it
pub lifted_orders : LiftedOrders
lifted_orders a b c d e = (
  lifted_bcad a b c d e,
  lifted_cabd a b c d e,
  lifted_acdb a b c d e,
  lifted_adbc a b c d e,
  lifted_bdca a b c d e,
  lifted_swap35 a b c d e,
)

-- 0 where two are one
pub lifted_repeats : LiftedRepeats
lifted_repeats a b c d = (
  lifted_same12 a b c d,
  lifted_same13 a b c d,
  lifted_same14 a b c d,
  lifted_same23 a b c d,
  lifted_same24 a b c d,
  lifted_same34 a b c d,
  lifted_same15 a b c d,
  lifted_same25 a b c d,
  lifted_same35 a b c d,
  lifted_same45 a b c d,
)
