use Rattle.std.proofs.Common.{arith}
use Rattle.std.proofs.lemmas.Int.{ints}
use Rattle.point_order.specs.Coordinates.{x_of}
use Rattle.point_order.proofs.Keys.{x_of_below}
use Rattle.point_order.proofs.point.Point.x.Goals as goal

pub returns-clause-value : goal.returns-clause-value
unfolding x_of
returns-clause-value c = omega (arith, ints)

pub returns-clause-bound : goal.returns-clause-bound
returns-clause-bound c = x_of_below c.args.self.now
