use Rattle.whole_ring.proofs.Cited.{fits_128, fits_as, product_fits_128, read, read_as, same_product, wide}
use Rattle.small_spheres.proofs.products.product_of.Goals as goal

pub overflow_cast-result : goal.overflow_cast-result
overflow_cast-result c = fits_as (read c.ranges.x) (fits_128 c.ranges.x)

pub overflow_cast-result-2 : goal.overflow_cast-result-2
overflow_cast-result-2 c = fits_as (read c.ranges.y) (fits_128 c.ranges.y)

pub overflow_mul-result : goal.overflow_mul-result
overflow_mul-result c =
    fits_as (same_product (wide c.ranges.x) (wide c.ranges.y)) (product_fits_128 c.ranges.x c.ranges.y)

pub returns : goal.returns
returns c = read_as (same_product (wide c.ranges.x) (wide c.ranges.y)) (product_fits_128 c.ranges.x c.ranges.y)
