use Rattle.std.proofs.Common.{◌≡◌}
use Rattle.net_digs.proofs.refill.join_rim.Given as goal

abbrev pub invariant-loop-side : goal.invariant-loop-side
invariant-loop-side l = l.net ≡ l.initial.net
