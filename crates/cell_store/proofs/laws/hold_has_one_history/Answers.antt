use Rattle.cell_store.proofs.MeshLaws as laws
use Rattle.cell_store.proofs.laws.hold_has_one_history.Goals as goal

pub returns-clause-history : goal.returns-clause-history
returns-clause-history c = laws.history_is

pub returns-clause-mesh : goal.returns-clause-mesh
returns-clause-mesh c = laws.mesh_is
