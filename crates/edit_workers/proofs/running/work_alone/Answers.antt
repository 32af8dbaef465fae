use Rattle.std.proofs.Common.{arith}
use Rattle.std.proofs.lemmas.List.Sorted.{length_permutation}
use Rattle.edit_workers.proofs.Halves.{slice_worked, slice_tags, slice_allowance}
use Rattle.edit_workers.proofs.running.work_alone.Goals as goal

pub in_place-requires-clause-tags : goal.in_place-requires-clause-tags
in_place-requires-clause-tags g c =
    slice_tags c.args.lists.now c.index-lists-0.result c.args.table.now c.args.pass c.requires.one c.index-lists-0.is
    c.requires.run

pub work_in_rounds-requires-clause-left : goal.work_in_rounds-requires-clause-left
work_in_rounds-requires-clause-left g c =
    let m = slice_allowance c.args.lists.now c.index-lists-0.result c.args.table.now c.args.pass c.requires.one
    c.index-lists-0.is c.requires.run in
    let e = length_permutation c.index-lists-0.result.pairs.items c.in_ok-list.list.pairs.items
    c.in_ok-list.ensures.is_arranged.same in
    omega (arith, m, e)

pub returns : goal.returns
returns g c =
    slice_worked c.args.lists.now c.index-lists-0.result c.in_ok-list.list.pairs.items c.in_ok-left.left.pairs.items
    c.args.table.now c.args.count c.args.pass c.work_in_rounds.new.pass c.requires.one c.index-lists-0.is c.requires.run
    c.requires.count.1 c.in_ok-list.ensures c.in_ok-left.ensures
