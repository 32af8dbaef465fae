use Rattle.std.proofs.Common.{◌≡◌}
use Rattle.round_table.specs.Taken.{IsTaking}
use Rattle.round_table.proofs.taking.take_each.Given as goal

abbrev pub invariant-loop-bucket : goal.invariant-loop-bucket
invariant-loop-bucket g l = IsTaking l.table.contents l.initial.pass l.pass l.initial.hand.items l.hand.items
    × (l.pass.table ≡ l.table)
