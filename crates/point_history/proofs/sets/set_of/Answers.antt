use Rattle.std.proofs.Common.{List, ℕ, subst}
use Rattle.point_order.specs.Sets.{AreSamePoints}
use Rattle.point_history.proofs.PointSets.{set_is}
use Rattle.point_history.proofs.sets.set_of.Goals as goal

pub returns-clause-set : goal.returns-clause-set
returns-clause-set c =
    set_is c.args.list.now c.points_in_order.result.items c.points_in_order.ensures.order
    (subst (λ (l : List ℕ). AreSamePoints l c.points_in_order.result.items) c.in_ok-from_slice.ensures.items
    c.points_in_order.ensures.points)
