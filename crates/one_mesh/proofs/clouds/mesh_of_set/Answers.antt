use Rattle.std.proofs.Common.{◌∙◌, sym, ap}
use Rattle.edit_history.specs.Histories.{replay}
use Rattle.point_history.proofs.Cited.{leaves_points}
use Rattle.one_mesh.proofs.clouds.mesh_of_set.Goals as goal

pub of_history-requires-clause-points : goal.of_history-requires-clause-points
of_history-requires-clause-points c =
    let points = c.args.points.now in
    let left = ap replay c.deref.ensures.value ∙ leaves_points points c.args.four c.in_ok-entries.entries.items
    c.one_thread_is_legal.ensures.replay c.requires.found c.in_ok-entries.ensures in
    c.requires.set ∙ sym left
