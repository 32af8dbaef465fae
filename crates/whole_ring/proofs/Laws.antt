-- The laws of specs/Laws, from the theorems of the other files.
use Rattle.std.specs.Prelude.{Bool, T, IsTrue}
use Rattle.std.proofs.Common.{sym, subst}
use Rattle.whole_ring.specs.Laws.{RingLaw, CombinationLaw, NonnegativeLaw, PositiveLaw, SignOfProduct, ZeroFactor}
use Rattle.whole_ring.specs.Laws.{SizeOfSum, SizeOfProduct}
use Rattle.whole_ring.proofs.Ring.{ring, ring_from, nonneg_from, pos_from}
use Rattle.whole_ring.proofs.Signs.{sgn_mul, zero_factor}
use Rattle.whole_ring.proofs.Bounds.{within_add, within_mul}

-- a test that is true, as the theorems take it
passed : (b : Bool) → IsTrue b → T b
passed b e = subst T (sym e) tt

-- two expressions whose difference is the polynomial 0 have the same value everywhere
pub ring_law : RingLaw
ring_law a b t xs = ring a b xs (passed _ t)

-- and two whose difference is a combination of given equations have it where these hold
pub combination_law : CombinationLaw
combination_law a b g t xs h = ring_from a b g xs h (passed _ t)

-- a number a positive multiple of which is a sum of products with no negative factor is not negative
pub nonnegative_law : NonnegativeLaw
nonnegative_law m e s g t xs h p n = nonneg_from m e s g xs p n h (passed _ t)

-- and it is positive where the last product is
pub positive_law : PositiveLaw
positive_law m e s g t xs h p n = pos_from m e s g xs p n h (passed _ t)

-- the sign of a product is the product of the signs
pub sign_of_product : SignOfProduct
sign_of_product a b = sgn_mul a b

-- a product is 0 only where a factor is
pub zero_factor_law : ZeroFactor
zero_factor_law a b e = zero_factor a b e

-- the size of a sum is at most the sum of the sizes
pub size_of_sum : SizeOfSum
size_of_sum m n x y h k = within_add h k

-- and that of a product at most the product of the sizes
pub size_of_product : SizeOfProduct
size_of_product m n x y h k = within_mul h k
