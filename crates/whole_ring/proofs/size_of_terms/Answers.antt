use Rattle.whole_ring.proofs.Laws.{size_of_sum, size_of_product}
use Rattle.whole_ring.proofs.size_of_terms.Goals as goal

pub returns-clause-sum : goal.returns-clause-sum
returns-clause-sum c = size_of_sum

pub returns-clause-product : goal.returns-clause-product
returns-clause-product c = size_of_product
