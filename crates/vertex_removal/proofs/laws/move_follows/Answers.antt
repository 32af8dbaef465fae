use Rattle.vertex_removal.proofs.Removals as laws
use Rattle.vertex_removal.proofs.laws.move_follows.Goals as goal

pub returns : goal.returns
returns c = laws.move_follows
