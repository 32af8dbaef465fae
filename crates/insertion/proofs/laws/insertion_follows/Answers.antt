use Rattle.insertion.proofs.Insertions as laws
use Rattle.insertion.proofs.laws.insertion_follows.Goals as goal

pub returns : goal.returns
returns c = laws.insertion_follows
