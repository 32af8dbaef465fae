use Rattle.std.proofs.Common.{IfOk}
use Rattle.std.proofs.iter.Serving.{serving}
use Rattle.edit_history.specs.Histories.{replay}
use Rattle.edit_plans.specs.Leaving.{RefillAnswers}
use Rattle.edit_plans.proofs.Moved.{can_leave, made_in}
use Rattle.edit_plans.proofs.in_mesh.leave_in.Goals as goal

pub with_point-requires-clause-look : goal.with_point-requires-clause-look
with_point-requires-clause-look c hold w =
    let can = can_leave hold.now (replay c.args.mesh.now.history) c.args.landed c.requires w in
    grind (serving, can)

pub returns-clause-plan : goal.returns-clause-plan
returns-clause-plan c =
    let f = c.in_ok-found.ensures.found in
    let h = f.2.1 in
    let a : IfOk c.in_ok-found.found (RefillAnswers f.0 c.args.landed.from) = grind (serving, h) in
    made_in f.0 (replay c.args.mesh.now.history) c.args.landed c.in_ok-found.found c.in_ok-found-2.field-0
    c.in_ok-plan.field-0 c.in-Done.plan c.requires f.1 a c.in_ok-found-2.was c.in_ok-plan.ensures c.in-Done.is
