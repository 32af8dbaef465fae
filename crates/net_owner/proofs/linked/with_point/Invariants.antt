use Rattle.std.proofs.Common.{ℕ, ◌<◌}
use Rattle.net_digs.specs.Linked.{NoneHasAt}
use Rattle.net_owner.proofs.linked.with_point.Given as goal

abbrev pub invariant-loop-i : goal.invariant-loop-i
invariant-loop-i l = (k : ℕ) → k < l.i → NoneHasAt l.fn.v l.fn.net k
