use Rattle.std.proofs.Common.{arith, ap, ◌∙◌}
use Rattle.std.specs.Prelude.{map}
use Rattle.std.proofs.lemmas.List.{length-map}
use Rattle.edit_workers.specs.Rounds.{fresh, pairs_of}
use Rattle.edit_workers.proofs.Waits.{allowed, list_all, list_done, list_few, list_first, list_left, list_next}
use Rattle.edit_workers.proofs.rounds.work_in_rounds.Goals as goal

pub loop-place-init : goal.loop-place-init
loop-place-init g c =
    list_first c.args.list.now.pairs.items c.new-waiting.result.items c.args.pass.now c.new-waiting.ensures.items

pub come-requires-clause-left : goal.come-requires-clause-left
come-requires-clause-left g c =
    let inside = c.loop-place-test.true in
    list_left c.args.list.now.pairs.items c.loop-place.waiting.items c.loop-place.place c.args.pass.now
    c.loop-place.pass c.loop-place.invariant (omega (arith, inside)) c.requires.left

pub come-requires-clause-few : goal.come-requires-clause-few
come-requires-clause-few g c =
    list_few c.args.list.now.pairs.items c.loop-place.waiting.items c.loop-place.place c.args.pass.now
    c.loop-place.pass c.loop-place.invariant

pub loop-place-preserved : goal.loop-place-preserved
loop-place-preserved g c =
    let inside = c.loop-place-test.true in
    list_next c.args.list.now.pairs.items c.loop-place.waiting.items c.loop-place.place c.args.pass.now
    c.loop-place.pass
    c.loop-place.invariant c.come.new.waiting.items c.index.result.now c.come.new.pass (omega (arith, inside))
    c.index.ensures c.in_ok-come.ensures

pub finish-requires-clause-left : goal.finish-requires-clause-left
finish-requires-clause-left g c =
    let list = c.args.list.now.pairs.items in
    let all = list_all list c.loop-place.waiting.items c.loop-place.place c.args.pass.now c.loop-place.pass
    c.loop-place.invariant (let end = c.loop-place-test.false in omega (arith, end)) in
    allowed (map fresh list) c.loop-place.waiting.items c.args.pass.now c.loop-place.pass all
    (let m = c.requires.left in omega (arith, m, length-map list fresh))

pub finish-requires-clause-few : goal.finish-requires-clause-few
finish-requires-clause-few g c =
    list_few c.args.list.now.pairs.items c.loop-place.waiting.items c.loop-place.place c.args.pass.now
    c.loop-place.pass c.loop-place.invariant

pub returns : goal.returns
returns g c =
    let list = c.args.list.now.pairs.items in
    let left = c.in_ok-left_over.field-0.pairs.items in
    let all = list_all list c.loop-place.waiting.items c.loop-place.place c.args.pass.now c.loop-place.pass
    c.loop-place.invariant (let end = c.loop-place-test.false in omega (arith, end)) in
    list_done list left c.loop-place.waiting.items c.in_ok-kept.kept.items c.args.pass.now c.loop-place.pass
    c.finish.new.pass all c.in_ok-kept.ensures.rounds c.in_ok-kept.ensures.alone
    (c.in_ok-left_over.ensures ∙ ap pairs_of c.deref.ensures.value)
