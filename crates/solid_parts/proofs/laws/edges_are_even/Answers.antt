use Rattle.solid_parts.proofs.Even.{edges_are_even}
use Rattle.solid_parts.proofs.laws.edges_are_even.Goals as goal

pub returns : goal.returns
returns c = edges_are_even
