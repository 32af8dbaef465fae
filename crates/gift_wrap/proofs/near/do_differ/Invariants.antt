use Rattle.std.proofs.Common.{drop}
use Rattle.list_laws.specs.Lists.{AreDistinct}
use Rattle.gift_wrap.proofs.near.do_differ.Given as goal

abbrev pub invariant-loop-k : goal.invariant-loop-k
invariant-loop-k l = AreDistinct (drop l.k l.cells)
