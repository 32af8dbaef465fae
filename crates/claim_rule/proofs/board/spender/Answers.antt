use Rattle.std.proofs.Common.{sym, ◌∙◌}
use Rattle.claim_rule.proofs.board.spender.Goals as goal

pub returns-in-Some : goal.returns-in-Some
returns-in-Some c = (sym c.seat_at.ensures ∙ c.in-Some.is, c.if-seat-gt0.true)
