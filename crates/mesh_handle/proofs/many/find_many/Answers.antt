use Rattle.std.proofs.Common.{◌∙◌, ◌<◌, arith, length}
use Rattle.mesh_handle.specs.Handles.{LiesAt}
use Rattle.mesh_handle.proofs.Turns.{behind_more, looks_more}
use Rattle.mesh_handle.proofs.many.find_many.Goals as goal

pub loop-done-preserved : goal.loop-done-preserved
loop-done-preserved c =
    let i = c.loop-done.done in
    let asked : i < length c.args.places.now = omega arith in
    let room : i < length c.loop-done.located = omega arith in
    record {
      found = looks_more LiesAt c.loop-done.handle.mesh c.args.handle.now.mesh c.args.places.now c.loop-done.located i
          _ c.in-Ok.row asked room c.loop-done.invariant.same c.loop-done.invariant.found c.in-Ok.ensures.found;
      behind = behind_more c.loop-done.located _ i c.in-Ok.row c.loop-done.invariant.behind;
      same = c.in-Ok.ensures.same ∙ c.loop-done.invariant.same;
    }
