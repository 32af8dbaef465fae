use Rattle.std.proofs.Common.{sym, subst, IfOk}
use Rattle.edit_history.specs.Histories.{replay}
use Rattle.edit_history.specs.declared.history.Edit.{Edit}
use Rattle.cell_store.proofs.Cited.{shows_of}
use Rattle.edit_plans.specs.Plans.{IsPlanFor}
use Rattle.edit_plans.proofs.Planned.{home_begins}
use Rattle.edit_plans.proofs.Moved.{mesh_lacks, mesh_lands, mesh_planned}
use Rattle.edit_plans.proofs.in_mesh.plan_of.Goals as goal

pub look-requires : goal.look-requires
look-requires c =
    let s = replay c.args.mesh.now.history in (
      s,
      shows_of c.args.mesh.now c.hold.result.now c.hold.ensures,
      home_begins c.hold.result.now s c.args.edit c.begin.result c.begin.ensures,
    )

pub unreachable-requires : goal.unreachable-requires
unreachable-requires c =
    mesh_lacks c.args.mesh.now c.hold.result.now c.hold.ensures c.args.edit c.begin.result c.in_ok-turn.field-0
    c.in-Turn.turn c.in-Need.field-0 c.in-Need.field-1 c.begin.ensures c.in-Turn.is c.in-Need.is c.in_ok-turn.ensures

pub leave_in-requires : goal.leave_in-requires
leave_in-requires c =
    (mesh_lands c.args.mesh.now c.hold.result.now c.hold.ensures c.args.edit c.begin.result c.in_ok-turn.field-0
    c.in-Beside.landed c.begin.ensures c.in-Beside.is c.in_ok-turn.ensures).1

pub returns-in-Done-clause-plan : goal.returns-in-Done-clause-plan
returns-in-Done-clause-plan c =
    mesh_planned c.args.mesh.now c.hold.result.now c.hold.ensures c.args.edit c.begin.result c.in_ok-turn.field-0
    c.in-Turn.turn c.in-Done.plan c.begin.ensures c.in-Turn.is c.in-Done.is c.in_ok-turn.ensures

pub returns-in-Beside-clause-plan : goal.returns-in-Beside-clause-plan
returns-in-Beside-clause-plan c =
    let r = mesh_lands c.args.mesh.now c.hold.result.now c.hold.ensures c.args.edit c.begin.result
    c.in_ok-turn.field-0 c.in-Beside.landed c.begin.ensures c.in-Beside.is c.in_ok-turn.ensures in
    subst (λ (e : Edit). IfOk c.leave_in.result (IsPlanFor (replay c.args.mesh.now.history) e)) (sym r.0)
    c.leave_in.ensures.plan
