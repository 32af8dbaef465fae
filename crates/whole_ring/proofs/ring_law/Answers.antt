use Rattle.whole_ring.proofs.Laws.{ring_law, combination_law}
use Rattle.whole_ring.proofs.ring_law.Goals as goal

pub returns-clause-same_polynomial : goal.returns-clause-same_polynomial
returns-clause-same_polynomial c = ring_law

pub returns-clause-by_combination : goal.returns-clause-by_combination
returns-clause-by_combination c = combination_law
