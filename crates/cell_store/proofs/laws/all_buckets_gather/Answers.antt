use Rattle.cell_store.proofs.MeshLaws as laws
use Rattle.cell_store.proofs.laws.all_buckets_gather.Goals as goal

pub returns-clause-history : goal.returns-clause-history
returns-clause-history c = laws.mesh_gathers

pub returns-clause-complex : goal.returns-clause-complex
returns-clause-complex c = laws.mesh_gathers_cells
