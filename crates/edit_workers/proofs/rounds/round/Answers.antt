use Rattle.std.proofs.Common.{take, subst, sym}
use Rattle.std.proofs.lemmas.List.{take_all}
use Rattle.edit_workers.specs.Rounds.{AllFresh}
use Rattle.edit_workers.proofs.Waits.{one_table, round_all, round_first, round_left, round_next}
use Rattle.edit_workers.proofs.rounds.round.Goals as goal

pub loop-one-init : goal.loop-one-init
loop-one-init g c = record {
  made = round_first c.new-kept.result.items c.args.pass.now c.new-kept.ensures.items;
  none = λ o f. c.new-kept.ensures.items;
}

pub try_or_wait-requires-clause-table : goal.try_or_wait-requires-clause-table
try_or_wait-requires-clause-table g c =
    one_table (take c.loop-one.one-index c.args.waiting.now) c.loop-one.kept.items c.args.pass.now c.loop-one.pass
    c.args.table.now c.loop-one.invariant.made c.requires.table

pub try_or_wait-requires-clause-left : goal.try_or_wait-requires-clause-left
try_or_wait-requires-clause-left g c =
    round_left c.args.waiting.now c.loop-one.kept.items c.loop-one.one-index c.args.pass.now c.loop-one.pass
    c.loop-one.invariant.made c.loop-one-test.true c.requires.left

pub loop-one-preserved : goal.loop-one-preserved
loop-one-preserved g c =
    let next = round_next c.args.waiting.now c.loop-one.kept.items c.loop-one.one-index c.args.pass.now c.loop-one.pass
    c.loop-one.invariant.made c.try_or_wait.new.kept.items c.one-item.result c.try_or_wait.new.pass
    c.loop-one-test.true c.one-item.is c.loop-one.invariant.none c.in_ok-try_or_wait.ensures in
    record { made = next.0; none = next.1 }

pub returns-clause-round : goal.returns-clause-round
returns-clause-round g c =
    round_all c.args.waiting.now c.loop-one.kept.items c.loop-one.one-index c.args.pass.now c.loop-one.pass
    c.loop-one.invariant.made c.loop-one-test.false

pub returns-clause-alone : goal.returns-clause-alone
returns-clause-alone g c = λ o f.
    c.loop-one.invariant.none o
    (subst AllFresh (sym (take_all c.loop-one.one-index c.args.waiting.now c.loop-one-test.false)) f)
