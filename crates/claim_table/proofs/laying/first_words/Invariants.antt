use Rattle.std.proofs.Common.{◌≡◌, ◌∷◌, replicate}
use Rattle.claim_table.proofs.laying.first_words.Given as goal

abbrev pub invariant-loop : goal.invariant-loop
invariant-loop l = l.words.items ≡ l.fn.ticket ∷ replicate l.counter 0
