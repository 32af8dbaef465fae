use Rattle.std.proofs.Common.{◌≡◌, length, None, ℕ}
use Rattle.part_edits.specs.Lists.{answer_at}
use Rattle.part_edits.proofs.work.no_answers.Given as goal

abbrev pub invariant-loop : goal.invariant-loop
invariant-loop l = (length l.answers.items ≡ l.counter) × ((i : ℕ) → answer_at l.answers.items i ≡ None)
