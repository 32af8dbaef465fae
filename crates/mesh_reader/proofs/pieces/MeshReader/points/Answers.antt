use Rattle.mesh_reader.proofs.Given.{given_ascend, given_points}
use Rattle.mesh_reader.proofs.pieces.MeshReader.points.Goals as goal

pub returns-in-Right-clause-ascending : goal.returns-in-Right-clause-ascending
returns-in-Right-clause-ascending c = given_ascend c.in-Right.counted c.points.result c.points.ensures

pub returns-in-Right-clause-those : goal.returns-in-Right-clause-those
returns-in-Right-clause-those c =
    rw (← c.self.view_is) (given_points c.self.inside.state c.self.inside.begun.items c.self.inside.taken.bytes
    c.in-Right.counted c.self.invariant c.in-Right.is c.points.result c.points.ensures)
