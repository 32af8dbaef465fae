use Rattle.std.proofs.Common.{◌≡◌}
use Rattle.net_digs.proofs.grow.link.Given as goal

abbrev pub invariant-loop-edge : goal.invariant-loop-edge
invariant-loop-edge l = l.net ≡ l.initial.net
