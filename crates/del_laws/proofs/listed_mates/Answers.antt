use Rattle.del_laws.proofs.ListedParts.{listed_mate}
use Rattle.del_laws.proofs.listed_mates.Goals as goal

pub returns : goal.returns
returns c = listed_mate
