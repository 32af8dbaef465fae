use Rattle.hole_laws.proofs.Judged.{stays_without_conflict, goes_in_conflict, some_mate, mates_judge}
use Rattle.hole_laws.proofs.conflict_law.Goals as goal

pub returns-clause-stays : goal.returns-clause-stays
returns-clause-stays c = stays_without_conflict

pub returns-clause-goes : goal.returns-clause-goes
returns-clause-goes c = goes_in_conflict

pub returns-clause-mate : goal.returns-clause-mate
returns-clause-mate c = some_mate

pub returns-clause-judged : goal.returns-clause-judged
returns-clause-judged c = mates_judge
