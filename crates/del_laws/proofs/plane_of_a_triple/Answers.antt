use Rattle.del_laws.proofs.Laws.{no_flat_triple, any_mate}
use Rattle.del_laws.proofs.plane_of_a_triple.Goals as goal

pub returns-clause-off : goal.returns-clause-off
returns-clause-off c = no_flat_triple

pub returns-clause-any_mate : goal.returns-clause-any_mate
returns-clause-any_mate c = any_mate
