use Rattle.cell_store.proofs.MeshLaws as laws
use Rattle.cell_store.proofs.laws.cells_are_held.Goals as goal

pub returns-clause-all : goal.returns-clause-all
returns-clause-all c = laws.all_are_held

pub returns-clause-more : goal.returns-clause-more
returns-clause-more c = laws.more_are_held
