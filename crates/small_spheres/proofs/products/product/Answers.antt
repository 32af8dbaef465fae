use Rattle.std.proofs.Common.{◌∙◌}
use Rattle.whole_ring.proofs.Cited.{product_fits_128, read, read_as, same_product, within_as, within_mul}
use Rattle.small_spheres.proofs.products.product.Goals as goal

pub returns-clause-value : goal.returns-clause-value
returns-clause-value c =
    let r = c.ranges in
    read_as (c.product_of.ensures ∙ same_product (read r.p) (read r.q)) (product_fits_128 r.p r.q)

pub returns-clause-bound : goal.returns-clause-bound
returns-clause-bound c = within_as (returns-clause-value c) (within_mul c.requires.p c.requires.q)
