use Rattle.std.proofs.Common.{◌≡◌, ◌∷◌, None, Some, replicate}
use Rattle.claim_rule.proofs.board.first_seats.Given as goal

abbrev pub invariant-loop : goal.invariant-loop
invariant-loop l = l.seats.items ≡ Some l.fn.seat ∷ replicate l.counter None
