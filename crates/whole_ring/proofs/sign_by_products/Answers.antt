use Rattle.whole_ring.proofs.Laws.{nonnegative_law, positive_law}
use Rattle.whole_ring.proofs.sign_by_products.Goals as goal

pub returns-clause-nonnegative : goal.returns-clause-nonnegative
returns-clause-nonnegative c = nonnegative_law

pub returns-clause-positive : goal.returns-clause-positive
returns-clause-positive c = positive_law
