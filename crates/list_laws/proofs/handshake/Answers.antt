use Rattle.list_laws.proofs.Parity.{handshake, another_of_even}
use Rattle.list_laws.proofs.handshake.Goals as goal

pub returns-clause-degrees : goal.returns-clause-degrees
returns-clause-degrees g c = handshake _

pub returns-clause-another : goal.returns-clause-another
returns-clause-another g c = another_of_even _
