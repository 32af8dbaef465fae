use Rattle.std.proofs.Common.{◌∙◌, ◌<◌, arith, length}
use Rattle.mesh_handle.specs.Handles.{NearestIs}
use Rattle.mesh_handle.proofs.Turns.{behind_more, looks_more}
use Rattle.mesh_handle.proofs.many.nearest_to_many.Goals as goal

pub loop-done-preserved : goal.loop-done-preserved
loop-done-preserved c =
    let i = c.loop-done.done in
    let asked : i < length c.args.places.now = omega arith in
    let room : i < length c.loop-done.nearest = omega arith in
    record {
      found = looks_more NearestIs c.loop-done.handle.mesh c.args.handle.now.mesh c.args.places.now
          c.loop-done.nearest i _ c.in-Ok.near asked room c.loop-done.invariant.same c.loop-done.invariant.found
          c.in-Ok.ensures.found;
      behind = behind_more c.loop-done.nearest _ i c.in-Ok.near c.loop-done.invariant.behind;
      same = c.in-Ok.ensures.same ∙ c.loop-done.invariant.same;
    }
