use Rattle.part_edits.proofs.Beside.{one_after_another, side_by_side, workers_compose}
use Rattle.part_edits.proofs.laws.parts_compose.Goals as goal

pub returns-clause-after : goal.returns-clause-after
returns-clause-after c = one_after_another

pub returns-clause-beside : goal.returns-clause-beside
returns-clause-beside c = side_by_side

pub returns-clause-all : goal.returns-clause-all
returns-clause-all c = workers_compose
