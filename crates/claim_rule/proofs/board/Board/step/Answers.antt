use Rattle.std.proofs.Common.{sym, subst}
use Rattle.claim_rule.specs.declared.event.Event.{Event}
use Rattle.claim_rule.specs.Events.{Next}
use Rattle.claim_rule.proofs.board.Board.step.Goals as goal

pub returns-in-Claim-clause-good : goal.returns-in-Claim-clause-good
returns-in-Claim-clause-good c = c.claim.ensures.good

pub returns-in-Claim-clause-next : goal.returns-in-Claim-clause-next
returns-in-Claim-clause-next c h good =
    subst (λ (e : Event). Next h c.args.self.now e c.claim.result c.claim.new.self) (sym c.in-Claim.is)
    (c.claim.ensures.next h good)

pub returns-in-Release-clause-good : goal.returns-in-Release-clause-good
returns-in-Release-clause-good c = c.release.ensures.good

pub returns-in-Release-clause-next : goal.returns-in-Release-clause-next
returns-in-Release-clause-next c h good =
    subst (λ (e : Event). Next h c.args.self.now e c.release.result c.release.new.self) (sym c.in-Release.is)
    (c.release.ensures.next h good)

pub returns-in-Split-clause-good : goal.returns-in-Split-clause-good
returns-in-Split-clause-good c = c.split.ensures.good

pub returns-in-Split-clause-next : goal.returns-in-Split-clause-next
returns-in-Split-clause-next c h good =
    subst (λ (e : Event). Next h c.args.self.now e c.split.result c.split.new.self) (sym c.in-Split.is)
    (c.split.ensures.next h good)

pub returns-in-Join-clause-good : goal.returns-in-Join-clause-good
returns-in-Join-clause-good c = c.join.ensures.good

pub returns-in-Join-clause-next : goal.returns-in-Join-clause-next
returns-in-Join-clause-next c h good =
    subst (λ (e : Event). Next h c.args.self.now e c.join.result c.join.new.self) (sym c.in-Join.is)
    (c.join.ensures.next h good)
