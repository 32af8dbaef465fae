use Rattle.conv_laws.proofs.Alternation.{orient_swaps, orient_even_orders, orient_repeats}
use Rattle.conv_laws.proofs.orientation_alternates.Goals as goal

pub returns-clause-swaps : goal.returns-clause-swaps
returns-clause-swaps c = orient_swaps

pub returns-clause-even_orders : goal.returns-clause-even_orders
returns-clause-even_orders c = orient_even_orders

pub returns-clause-repeats : goal.returns-clause-repeats
returns-clause-repeats c = orient_repeats
