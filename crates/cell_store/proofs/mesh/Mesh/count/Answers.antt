use Rattle.cell_store.proofs.MeshLaws.{mesh_sound}
use Rattle.cell_store.proofs.mesh.Mesh.count.Goals as goal

pub returns-clause-sound : goal.returns-clause-sound
returns-clause-sound c = mesh_sound c.self.inside.hold c.args.self.now c.self.view_is c.self.invariant.0
