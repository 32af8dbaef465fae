use Rattle.vertex_removal.proofs.Removals as laws
use Rattle.vertex_removal.proofs.laws.removal_follows.Goals as goal

pub returns : goal.returns
returns c = laws.removal_follows
