use Rattle.std.proofs.Common.{rules, arith}
use Rattle.edit_workers.proofs.Counts.{count_within}
use Rattle.edit_workers.proofs.running.pair_count.Goals as goal

pub overflow_add-count : goal.overflow_add-count
overflow_add-count c =
    let m = count_within c.args.lists.now c.loop-list.list-index c.list-item.result (search rules) c.list-item.is in
    omega (arith, m, c.loop-list.invariant, c.requires, c.len.ensures)
