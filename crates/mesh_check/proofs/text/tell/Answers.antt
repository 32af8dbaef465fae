use Rattle.mesh_check.specs.Flaws.{as_cells}
use Rattle.mesh_check.proofs.Telling.{told_by}
use Rattle.mesh_check.proofs.text.tell.Goals as goal

pub returns-in-Ok : goal.returns-in-Ok
returns-in-Ok c = told_by c.args.points.now (as_cells c.args.cells.now c.args.hull.now) c.in-Ok.verdict c.told_of.result
    c.in-Ok.ensures.verdict c.told_of.ensures.good c.told_of.ensures.text
