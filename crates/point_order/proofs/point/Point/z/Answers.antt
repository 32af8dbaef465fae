use Rattle.std.proofs.Common.{arith}
use Rattle.std.proofs.lemmas.Int.{ints}
use Rattle.std.proofs.lemmas.Nat.{and_mask}
use Rattle.point_order.specs.Coordinates.{z_of}
use Rattle.point_order.proofs.Keys.{z_of_below}
use Rattle.point_order.proofs.point.Point.z.Goals as goal

pub returns-clause-value : goal.returns-clause-value
unfolding z_of
returns-clause-value c = omega (arith, ints, and_mask c.self.inside.packed 14)

pub returns-clause-bound : goal.returns-clause-bound
returns-clause-bound c = z_of_below c.args.self.now
