use Rattle.list_laws.proofs.Parity.{none_is_even, one_is_odd, two_are_even}
use Rattle.list_laws.proofs.parity_of_few.Goals as goal

pub returns-clause-none : goal.returns-clause-none
returns-clause-none g c = none_is_even _

pub returns-clause-one : goal.returns-clause-one
returns-clause-one g c = one_is_odd _

pub returns-clause-two : goal.returns-clause-two
returns-clause-two g c = two_are_even _
