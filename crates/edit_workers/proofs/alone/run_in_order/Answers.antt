use Rattle.std.proofs.Common.{arith}
use Rattle.edit_workers.proofs.InOrder.{count_next, made_next}
use Rattle.edit_workers.proofs.alone.run_in_order.Goals as goal

pub loop-edit-preserved : goal.loop-edit-preserved
loop-edit-preserved g c =
    let n = count_next c.loop-edit.mesh c.make.new.mesh c.loop-edit.tag c.edit-item.result c.in_ok-make.ensures in
    let k = c.loop-edit.invariant.count in
    let t = c.loop-edit.invariant.tag_is in
    record {
      made = made_next c.args.edits.now c.loop-edit.edit-index c.edit-item.result c.loop-edit.mesh c.make.new.mesh _
          c.loop-edit.tag c.loop-edit-test.true c.edit-item.is c.loop-edit.invariant.made c.in_ok-make.ensures;
      tag_is = omega (arith, t);
      count = omega (arith, n, k);
    }
