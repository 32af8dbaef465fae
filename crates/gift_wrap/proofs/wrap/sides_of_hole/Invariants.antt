use Rattle.gift_wrap.specs.Wraps.{AreSidesOf}
use Rattle.gift_wrap.proofs.wrap.sides_of_hole.Given as goal

abbrev pub invariant-loop-cell : goal.invariant-loop-cell
invariant-loop-cell l = AreSidesOf l.star l.v l.sides.items
