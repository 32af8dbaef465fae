use Rattle.whole_ring.proofs.Cited.{fits_128, fits_as, product_fits_128, read, read_as, same_product, wide, within_as}
use Rattle.whole_ring.proofs.Cited.{within_mul}
use Rattle.gift_wrap.proofs.ball.term.Goals as goal

pub overflow_cast-result : goal.overflow_cast-result
overflow_cast-result c = fits_as (read c.ranges.p) (fits_128 c.ranges.p)

pub overflow_cast-result-2 : goal.overflow_cast-result-2
overflow_cast-result-2 c = fits_as (read c.ranges.q) (fits_128 c.ranges.q)

pub overflow_mul-result : goal.overflow_mul-result
overflow_mul-result c =
    fits_as (same_product (wide c.ranges.p) (wide c.ranges.q)) (product_fits_128 c.ranges.p c.ranges.q)

pub returns-clause-value : goal.returns-clause-value
returns-clause-value c =
    read_as (same_product (wide c.ranges.p) (wide c.ranges.q)) (product_fits_128 c.ranges.p c.ranges.q)

pub returns-clause-bound : goal.returns-clause-bound
returns-clause-bound c = within_as (returns-clause-value c) (within_mul c.requires.p c.requires.q)
