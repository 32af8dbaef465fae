use Rattle.del_laws.proofs.Kept.{full_is_kept, open_is_kept}
use Rattle.del_laws.proofs.kept_cells.Goals as goal

pub returns-clause-full : goal.returns-clause-full
returns-clause-full c = full_is_kept

pub returns-clause-open : goal.returns-clause-open
returns-clause-open c = open_is_kept
