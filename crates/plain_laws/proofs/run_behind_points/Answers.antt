use Rattle.plain_laws.proofs.Behind.{run_behind_alone, run_behind_keeps}
use Rattle.plain_laws.proofs.run_behind_points.Goals as goal

pub returns-clause-keeps : goal.returns-clause-keeps
returns-clause-keeps c = run_behind_keeps

pub returns-clause-alone : goal.returns-clause-alone
returns-clause-alone c = run_behind_alone
