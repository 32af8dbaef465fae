use Rattle.claim_table.specs.Faces.{buckets_of}
use Rattle.grid_claims.proofs.Planning.{asked_then, hands_with, lacks_after, more_after, on_after, planned_after}
use Rattle.grid_claims.proofs.Planning.{planning_none, starved}
use Rattle.grid_claims.proofs.claiming.plan_for.Goals as goal

pub loop-plan-init : goal.loop-plan-init
loop-plan-init c =
    planning_none c.args.board.now.shared.table_id (buckets_of c.args.board.now.shared.key) c.args.edit c.args.hands.now
    c.args.hands.now c.begin-planner.result c.requires.hands c.requires.none c.begin-planner.ensures

pub returns-in-Done-clause-hands : goal.returns-in-Done-clause-hands
returns-in-Done-clause-hands c =
    (more_after c.args.board.now.shared.table_id (buckets_of c.args.board.now.shared.key) c.args.edit c.args.hands.now
    c.loop-plan.hands c.advance.new.hold c.advance.new.hold.room c.loop-plan.planner c.loop-plan.invariant
    c.in_ok-plan.ensures.same).hands

pub returns-in-Done-clause-more : goal.returns-in-Done-clause-more
returns-in-Done-clause-more c =
    more_after c.args.board.now.shared.table_id (buckets_of c.args.board.now.shared.key) c.args.edit c.args.hands.now
    c.loop-plan.hands c.advance.new.hold c.advance.new.hold.room c.loop-plan.planner c.loop-plan.invariant
    c.in_ok-plan.ensures.same

pub returns-in-Done-clause-plan : goal.returns-in-Done-clause-plan
returns-in-Done-clause-plan c =
    planned_after c.args.board.now.shared.table_id (buckets_of c.args.board.now.shared.key) c.args.edit c.args.hands.now
    c.loop-plan.hands c.advance.new.hold c.advance.new.hold.room c.loop-plan.planner c.in-Done.plan c.in_ok-plan.field-0
    c.loop-plan.invariant c.in-Done.is c.in_ok-plan.ensures.answers c.in_ok-plan.ensures.same

pub returns-in_err-plan-clause-hands : goal.returns-in_err-plan-clause-hands
returns-in_err-plan-clause-hands c =
    (more_after c.args.board.now.shared.table_id (buckets_of c.args.board.now.shared.key) c.args.edit c.args.hands.now
    c.loop-plan.hands c.advance.new.hold c.advance.new.hold.room c.loop-plan.planner c.loop-plan.invariant
    c.in_err-plan.ensures.same).hands

pub returns-in_err-plan-clause-stopped : goal.returns-in_err-plan-clause-stopped
returns-in_err-plan-clause-stopped c =
    starved c.args.board.now.shared.table_id (buckets_of c.args.board.now.shared.key) c.args.hands.now
    (hands_with c.loop-plan.hands c.advance.new.hold)
    c.from_residual.result
    (more_after c.args.board.now.shared.table_id (buckets_of c.args.board.now.shared.key) c.args.edit c.args.hands.now
    c.loop-plan.hands c.advance.new.hold c.advance.new.hold.room c.loop-plan.planner c.loop-plan.invariant
    c.in_err-plan.ensures.same)
    c.from_residual.ensures

pub ask-requires-clause-hands : goal.ask-requires-clause-hands
ask-requires-clause-hands c =
    (more_after c.args.board.now.shared.table_id (buckets_of c.args.board.now.shared.key) c.args.edit c.args.hands.now
    c.loop-plan.hands c.advance.new.hold c.advance.new.hold.room c.loop-plan.planner c.loop-plan.invariant
    c.in_ok-plan.ensures.same).hands

pub ask-requires-clause-below : goal.ask-requires-clause-below
ask-requires-clause-below c =
    let lacks = lacks_after c.args.board.now.shared.table_id (buckets_of c.args.board.now.shared.key) c.args.edit
    c.args.hands.now c.loop-plan.hands c.advance.new.hold c.advance.new.hold.room c.loop-plan.planner c.in-Need.next
    c.in-Need.b c.in_ok-plan.field-0 c.loop-plan.invariant c.in-Need.is c.in_ok-plan.ensures.answers
    c.in_ok-plan.ensures.same
    in
    lacks.below

pub ask-requires-clause-absent : goal.ask-requires-clause-absent
ask-requires-clause-absent c =
    let lacks = lacks_after c.args.board.now.shared.table_id (buckets_of c.args.board.now.shared.key) c.args.edit
    c.args.hands.now c.loop-plan.hands c.advance.new.hold c.advance.new.hold.room c.loop-plan.planner c.in-Need.next
    c.in-Need.b c.in_ok-plan.field-0 c.loop-plan.invariant c.in-Need.is c.in_ok-plan.ensures.answers
    c.in_ok-plan.ensures.same
    in
    lacks.absent

pub returns-in_err-ask-in-Need-clause-stopped : goal.returns-in_err-ask-in-Need-clause-stopped
returns-in_err-ask-in-Need-clause-stopped c =
    asked_then c.args.board.now.shared.table_id (buckets_of c.args.board.now.shared.key) c.args.hands.now
    (hands_with c.loop-plan.hands c.advance.new.hold)
    c.ask.new.hands c.from_residual-in_err-ask-in-Need.result c.in_err-ask-in-Need.field-0.0
    (more_after c.args.board.now.shared.table_id (buckets_of c.args.board.now.shared.key) c.args.edit c.args.hands.now
    c.loop-plan.hands c.advance.new.hold c.advance.new.hold.room c.loop-plan.planner c.loop-plan.invariant
    c.in_ok-plan.ensures.same)
    c.in_err-ask-in-Need.ensures.stopped c.from_residual-in_err-ask-in-Need.ensures

pub loop-plan-preserved : goal.loop-plan-preserved
loop-plan-preserved c =
    on_after c.args.board.now.shared.table_id (buckets_of c.args.board.now.shared.key) c.args.edit c.args.hands.now
    c.loop-plan.hands c.advance.new.hold c.advance.new.hold.room c.ask.new.hands c.loop-plan.planner c.in-Need.next
    c.in-Need.b c.in_ok-plan.field-0 c.loop-plan.invariant c.in-Need.is c.in_ok-plan.ensures.answers
    c.in_ok-plan.ensures.same c.in_ok-ask-in-Need.ensures.more c.in_ok-ask-in-Need.ensures.order
