use Rattle.std.proofs.Common.{◌∙◌, ap}
use Rattle.edit_history.specs.Histories.{replay}
use Rattle.linked_mesh.proofs.Neighbours.{located}
use Rattle.linked_mesh.proofs.mesh.locate.Goals as goal

pub returns-clause-vertex : goal.returns-clause-vertex
returns-clause-vertex c =
    (located c.locate.result c.mesh.inside.set (replay c.args.mesh.now) c.args.p
    (c.mesh.invariant ∙ ap replay c.mesh.view_is) c.locate.ensures).0

pub returns-clause-inside : goal.returns-clause-inside
returns-clause-inside c =
    (located c.locate.result c.mesh.inside.set (replay c.args.mesh.now) c.args.p
    (c.mesh.invariant ∙ ap replay c.mesh.view_is) c.locate.ensures).1
