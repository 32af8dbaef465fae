use Rattle.conv_laws.proofs.Alternation.{lifted_swaps, lifted_orders, lifted_repeats}
use Rattle.conv_laws.proofs.lifted_determinant_alternates.Goals as goal

pub returns-clause-swaps : goal.returns-clause-swaps
returns-clause-swaps c = lifted_swaps

pub returns-clause-orders : goal.returns-clause-orders
returns-clause-orders c = lifted_orders

pub returns-clause-repeats : goal.returns-clause-repeats
returns-clause-repeats c = lifted_repeats
