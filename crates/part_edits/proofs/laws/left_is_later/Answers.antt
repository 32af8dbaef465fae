use Rattle.part_edits.proofs.Left.{left_is_later}
use Rattle.part_edits.proofs.laws.left_is_later.Goals as goal

pub returns : goal.returns
returns c = left_is_later
