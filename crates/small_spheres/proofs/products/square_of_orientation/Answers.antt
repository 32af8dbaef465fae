use Rattle.std.proofs.Common.{◌∙◌}
use Rattle.whole_ring.proofs.Cited.{product_fits_128, read, read_as, same_product, within_as, within_mul}
use Rattle.small_spheres.proofs.products.square_of_orientation.Goals as goal

pub returns-clause-value : goal.returns-clause-value
returns-clause-value c =
    let r = c.ranges in
    read_as (c.product_of.ensures ∙ same_product (read r.orientation) (read r.orientation))
    (product_fits_128 r.orientation r.orientation)

pub returns-clause-bound : goal.returns-clause-bound
returns-clause-bound c = within_as (returns-clause-value c) (within_mul c.requires c.requires)
