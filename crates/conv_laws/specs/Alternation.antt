-- Exchanging two arguments turns the sign of an orientation and of a lifted determinant,
-- and both are 0 where two arguments are one.
use Rattle.std.specs.Prelude.{pos, neg_ℤ, ◌≡◌}
use Rattle.conv_laws.specs.Places.{Place, orient, Lifted, lifted}

-- exchanging two neighbours turns the sign
abbrev pub OrientSwaps : Type 0
OrientSwaps =
    (a b c d : Place) →
    (orient b a c d ≡ neg_ℤ (orient a b c d))
    × (orient a c b d ≡ neg_ℤ (orient a b c d))
    × (orient a b d c ≡ neg_ℤ (orient a b c d))

-- the orders that come from an even number of exchanges keep it
abbrev pub OrientEvenOrders : Type 0
OrientEvenOrders =
    (a b c d : Place) →
    (orient b c a d ≡ orient a b c d)
    × (orient c a b d ≡ orient a b c d)
    × (orient a c d b ≡ orient a b c d)
    × (orient a d b c ≡ orient a b c d)
    × (orient b d c a ≡ orient a b c d)
    × (orient b a d c ≡ orient a b c d)

-- it is 0 where two of the four are one place
abbrev pub OrientRepeats : Type 0
OrientRepeats =
    (a b c : Place) →
    (orient a a b c ≡ pos 0)
    × (orient a b a c ≡ pos 0)
    × (orient a b c a ≡ pos 0)
    × (orient b a a c ≡ pos 0)
    × (orient b a c a ≡ pos 0)
    × (orient b c a a ≡ pos 0)

-- exchanging two neighbours turns the sign
abbrev pub LiftedSwaps : Type 0
LiftedSwaps =
    (a b c d e : Lifted) →
    (lifted b a c d e ≡ neg_ℤ (lifted a b c d e))
    × (lifted a c b d e ≡ neg_ℤ (lifted a b c d e))
    × (lifted a b d c e ≡ neg_ℤ (lifted a b c d e))
    × (lifted a b c e d ≡ neg_ℤ (lifted a b c d e))

-- the orders of the first four that come from an even number of exchanges keep it; and
-- exchanging the third with the fifth turns it
abbrev pub LiftedOrders : Type 0
LiftedOrders =
    (a b c d e : Lifted) →
    (lifted b c a d e ≡ lifted a b c d e)
    × (lifted c a b d e ≡ lifted a b c d e)
    × (lifted a c d b e ≡ lifted a b c d e)
    × (lifted a d b c e ≡ lifted a b c d e)
    × (lifted b d c a e ≡ lifted a b c d e)
    × (lifted a b e d c ≡ neg_ℤ (lifted a b c d e))

-- it is 0 where two of the five are one
abbrev pub LiftedRepeats : Type 0
LiftedRepeats =
    (a b c d : Lifted) →
    (lifted a a b c d ≡ pos 0)
    × (lifted a b a c d ≡ pos 0)
    × (lifted a b c a d ≡ pos 0)
    × (lifted b a a c d ≡ pos 0)
    × (lifted b a c a d ≡ pos 0)
    × (lifted b c a a d ≡ pos 0)
    × (lifted a b c d a ≡ pos 0)
    × (lifted b a c d a ≡ pos 0)
    × (lifted b c a d a ≡ pos 0)
    × (lifted b c d a a ≡ pos 0)
