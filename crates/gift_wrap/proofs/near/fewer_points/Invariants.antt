use Rattle.std.proofs.Common.{take}
use Rattle.point_order.specs.Sets.{AreSamePoints}
use Rattle.gift_wrap.proofs.near.fewer_points.Given as goal

abbrev pub invariant-loop-p : goal.invariant-loop-p
invariant-loop-p l = AreSamePoints (take l.p-index l.points) l.fewer.items
