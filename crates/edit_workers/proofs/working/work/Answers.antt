use Rattle.edit_workers.proofs.Worked.{worked_first, worked_next, worked_all, left_inside, same_table, broken_off}
use Rattle.std.proofs.Common.{take}
use Rattle.list_laws.proofs.Cited.{on_err}
use Rattle.edit_workers.proofs.working.work.Goals as goal

pub loop-pair-init : goal.loop-pair-init
loop-pair-init g c = worked_first c.new.result.items c.args.pass.now c.new.ensures.items

pub work_on-requires-clause-table : goal.work_on-requires-clause-table
work_on-requires-clause-table g c =
    same_table (take c.loop-pair.pair-index c.args.list.now.pairs.items) c.loop-pair.left.pairs.items c.args.pass.now
    c.loop-pair.pass c.args.table.now c.loop-pair.invariant c.requires.table

pub work_on-requires-clause-left : goal.work_on-requires-clause-left
work_on-requires-clause-left g c =
    left_inside c.args.list.now.pairs.items c.deref-pair-items.result.now c.loop-pair.left.pairs.items
    c.loop-pair.pair-index c.args.pass.now c.loop-pair.pass
    c.deref-pair-items.ensures.value c.loop-pair-test.true c.requires.left c.loop-pair.invariant

pub returns-in_err-work_on-clause-broken : goal.returns-in_err-work_on-clause-broken
returns-in_err-work_on-clause-broken g c =
    on_err c.from_residual.result
    (broken_off c.args.list.now.pairs.items c.loop-pair.left.pairs.items c.loop-pair.pair-index c.args.pass.now
    c.loop-pair.pass c.work_on.new.pass c.loop-pair.invariant c.in_err-work_on.ensures.broken)

pub loop-pair-preserved : goal.loop-pair-preserved
loop-pair-preserved g c =
    worked_next c.args.list.now.pairs.items c.deref-pair-items.result.now c.loop-pair.left.pairs.items
    c.work_on.new.left.pairs.items c.loop-pair.pair-index c.pair-item.result
    c.args.pass.now c.loop-pair.pass c.work_on.new.pass c.deref-pair-items.ensures.value c.loop-pair-test.true
    c.pair-item.is c.loop-pair.invariant c.in_ok-work_on.ensures.done

pub returns-clause-worked : goal.returns-clause-worked
returns-clause-worked g c =
    worked_all c.args.list.now.pairs.items c.deref-pair-items.result.now c.loop-pair.left.pairs.items
    c.loop-pair.pair-index c.args.pass.now c.loop-pair.pass
    c.deref-pair-items.ensures.value c.loop-pair-test.false c.loop-pair.invariant
