use Rattle.edit_plans.proofs.Planned.{plan_inserted, comes_asks}
use Rattle.edit_plans.proofs.planner.come_on.Goals as goal

pub returns-in-Done : goal.returns-in-Done
returns-in-Done c s sh k =
    plan_inserted c.args.hold.now s c.args.p c.args.arrival c.in_ok-gone.field-0 c.in-Done.field-0
    sh k c.in-Done.is
    (c.in_ok-gone.ensures s sh k.1)

pub returns-in-Need : goal.returns-in-Need
returns-in-Need c s sh k =
    comes_asks c.args.hold.now s c.args.p c.in-Need.b c.args.arrival c.in-Need.next c.in_ok-gone.field-0 k c.in-Need.is
    (c.in_ok-gone.ensures s sh k.1)
