use Rattle.del_laws.proofs.Laws.{keys_have_no_ties, keys_are_convex}
use Rattle.del_laws.proofs.perturbed_heights.Goals as goal

pub returns-clause-no_ties : goal.returns-clause-no_ties
returns-clause-no_ties c = keys_have_no_ties

pub returns-clause-convex : goal.returns-clause-convex
returns-clause-convex c = keys_are_convex
