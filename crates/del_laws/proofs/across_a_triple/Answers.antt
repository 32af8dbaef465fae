use Rattle.del_laws.proofs.Laws.{across_full_law, across_open_law, one_full_on_a_side, one_open_on_a_side}
use Rattle.del_laws.proofs.across_a_triple.Goals as goal

pub returns-clause-full : goal.returns-clause-full
returns-clause-full c = across_full_law

pub returns-clause-open : goal.returns-clause-open
returns-clause-open c = across_open_law

pub returns-clause-one_full : goal.returns-clause-one_full
returns-clause-one_full c = one_full_on_a_side

pub returns-clause-one_open : goal.returns-clause-one_open
returns-clause-one_open c = one_open_on_a_side
