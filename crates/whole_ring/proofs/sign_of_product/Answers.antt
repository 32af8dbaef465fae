use Rattle.whole_ring.proofs.Laws.{sign_of_product, zero_factor_law}
use Rattle.whole_ring.proofs.sign_of_product.Goals as goal

pub returns-clause-product : goal.returns-clause-product
returns-clause-product c = sign_of_product

pub returns-clause-zero : goal.returns-clause-zero
returns-clause-zero c = zero_factor_law
