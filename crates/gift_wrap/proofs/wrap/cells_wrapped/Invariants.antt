use Rattle.std.proofs.Common.{◌-◌, vec_len}
use Rattle.gift_wrap.proofs.Wrapping.{IsWrapped}
use Rattle.gift_wrap.proofs.wrap.cells_wrapped.Given as goal

abbrev pub invariant-wrap : goal.invariant-wrap
invariant-wrap l = IsWrapped l.points l.v l.cells.items l.sides.items

abbrev pub decreases-wrap : goal.decreases-wrap
decreases-wrap l = 1024 - vec_len l.cells
