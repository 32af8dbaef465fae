use Rattle.mesh_rows.proofs.Clouds.{passed_on, set_in_order}
use Rattle.mesh_rows.proofs.cloud.set_of.Goals as goal

pub returns-clause-set : goal.returns-clause-set
returns-clause-set c =
    set_in_order c.args.given.now _ _ c.in_ok-points.ensures.points c.in_ok-points.ensures.keys
    c.points_in_order.ensures.order c.points_in_order.ensures.points

pub returns-in_err-points-clause-refused : goal.returns-in_err-points-clause-refused
returns-in_err-points-clause-refused c =
    passed_on c.args.given.now _ c.from_residual.result c.from_residual.ensures.1 c.in_err-points.ensures.refused
