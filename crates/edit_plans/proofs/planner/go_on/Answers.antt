use Rattle.edit_plans.proofs.Planned.{plan_removed, plan_flat}
use Rattle.edit_plans.proofs.planner.go_on.Goals as goal

pub returns-in-Done : goal.returns-in-Done
returns-in-Done c s sh k =
    plan_removed c.args.hold.now s c.args.p c.in_ok-refill.refill c.in_ok-gone.field-0 c.in-Done.field-0
    sh k c.in_ok-refill.ensures c.in-Done.is (c.in_ok-gone.ensures.turn s sh)

pub returns-in-Flat : goal.returns-in-Flat
returns-in-Flat c s sh k =
    plan_flat c.args.hold.now s c.args.p c.in_ok-refill.refill c.in_ok-gone.field-0 c.no_change.result sh k
    c.in_ok-refill.ensures c.no_change.ensures c.in-Flat.is (c.in_ok-gone.ensures.turn s sh)
