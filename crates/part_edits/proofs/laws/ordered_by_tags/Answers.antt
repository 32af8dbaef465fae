use Rattle.part_edits.proofs.Legal.{round_is_legal}
use Rattle.part_edits.proofs.Sorted.{ordered_by_tags}
use Rattle.part_edits.proofs.laws.ordered_by_tags.Goals as goal

pub returns-clause-order : goal.returns-clause-order
returns-clause-order c = ordered_by_tags

pub returns-clause-legal : goal.returns-clause-legal
returns-clause-legal c = round_is_legal
