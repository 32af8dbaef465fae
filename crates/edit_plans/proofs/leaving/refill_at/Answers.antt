use Rattle.edit_plans.proofs.Moved.{refill_answers}
use Rattle.edit_plans.proofs.leaving.refill_at.Goals as goal

pub returns : goal.returns
returns c =
    refill_answers c.args.hold.now c.args.v c.in_ok-refill.refill c.advance.result c.in_ok-refill.ensures
    c.advance.ensures.turn c.advance.ensures.below c.advance.ensures.all
