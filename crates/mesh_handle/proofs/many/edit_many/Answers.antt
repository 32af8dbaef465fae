use Rattle.std.proofs.Common.{◌<◌, arith, length}
use Rattle.mesh_handle.proofs.Turns.{behind_more, edits_more}
use Rattle.mesh_handle.proofs.many.edit_many.Goals as goal

pub loop-done-preserved : goal.loop-done-preserved
loop-done-preserved c =
    let i = c.loop-done.done in
    let asked : i < length c.args.edits.now = omega arith in
    let room : i < length c.loop-done.replies = omega arith in
    record {
      made = edits_more c.args.handle.now.mesh c.loop-done.handle.mesh c.make.new.handle.mesh c.args.edits.now
          c.loop-done.replies i _ c.in-Ok.number asked room c.loop-done.invariant.made c.in-Ok.ensures.made;
      behind = behind_more c.loop-done.replies _ i c.in-Ok.number c.loop-done.invariant.behind;
    }
