use Rattle.edit_plans.proofs.Moved.{lands_asks, lands_beside}
use Rattle.edit_plans.proofs.moving.land_on.Goals as goal

pub returns-in-Done : goal.returns-in-Done
returns-in-Done c s sh k =
    lands_beside c.args.hold.now s c.args.a c.args.b c.args.arrival c.in_ok-came.field-0 c.in-Done.came sh k
    c.in-Done.is (c.in_ok-came.ensures s sh k.3)

pub returns-in-Need : goal.returns-in-Need
returns-in-Need c s sh k =
    lands_asks c.args.hold.now s c.args.a c.args.b c.in-Need.x c.args.arrival c.in-Need.next c.in_ok-came.field-0 k
    c.in-Need.is (c.in_ok-came.ensures s sh k.3)
