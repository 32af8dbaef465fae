use Rattle.claim_rule.specs.declared.event.Event.TheVariants.{Look}
use Rattle.claim_rule.specs.declared.event.Played.TheVariants.{Done}
use Rattle.claim_rule.specs.Kept.{kept_of}
use Rattle.claim_rule.proofs.Moves.{good_by, seen_as, seat_there, look_next}
use Rattle.claim_rule.proofs.board.Board.look.Goals as goal

pub invariant_of-self : goal.invariant_of-self
invariant_of-self c =
    let g = c.self.invariant in
    good_by g.0 _ (Look c.args.n) Done _ g.1 _ (look_next (kept_of c.self.inside) c.args.n c.in-Some.seat g.0
    (seat_there c.args.n c.deref.ensures.value c.seat_at.ensures c.in-Some.is))

pub returns-in-Some-clause-good : goal.returns-in-Some-clause-good
returns-in-Some-clause-good c = invariant_of-self c

pub returns-in-Some-clause-next : goal.returns-in-Some-clause-next
returns-in-Some-clause-next c h =
    seen_as h _ c.args.self.now (Look c.args.n) Done _ c.self.view_is
    (λ good. look_next (kept_of c.self.inside) c.args.n c.in-Some.seat h
    (seat_there c.args.n c.deref.ensures.value c.seat_at.ensures c.in-Some.is))
