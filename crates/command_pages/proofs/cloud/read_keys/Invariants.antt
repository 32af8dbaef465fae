-- the points in front are keys
use Rattle.std.proofs.Common.{ℕ, take}
use Rattle.point_order.specs.Coordinates.{IsKey}
use Rattle.point_order.specs.Sets.{IsIn}
use Rattle.command_pages.proofs.cloud.read_keys.Given as goal

abbrev pub invariant-loop-point : goal.invariant-loop-point
invariant-loop-point l = (p : ℕ) → IsIn p (take l.point-index l.points) → IsKey p
