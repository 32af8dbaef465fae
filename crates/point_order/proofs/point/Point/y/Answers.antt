use Rattle.std.proofs.Common.{arith, ◌/◌}
use Rattle.std.proofs.lemmas.Int.{ints}
use Rattle.std.proofs.lemmas.Nat.{and_mask}
use Rattle.point_order.specs.Coordinates.{y_of}
use Rattle.point_order.proofs.Keys.{y_of_below}
use Rattle.point_order.proofs.point.Point.y.Goals as goal

pub returns-clause-value : goal.returns-clause-value
unfolding y_of
returns-clause-value c = omega (arith, ints, and_mask (c.self.inside.packed / 16384) 14)

pub returns-clause-bound : goal.returns-clause-bound
returns-clause-bound c = y_of_below c.args.self.now
