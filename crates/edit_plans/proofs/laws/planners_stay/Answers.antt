use Rattle.edit_plans.proofs.Planned.{planner_stays}
use Rattle.edit_plans.proofs.laws.planners_stay.Goals as goal

pub returns : goal.returns
returns c = planner_stays
