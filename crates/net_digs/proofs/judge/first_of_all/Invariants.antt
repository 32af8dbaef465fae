use Rattle.std.proofs.Common.{ℕ, ◌<◌}
use Rattle.cell_slots.specs.Marked.{StaysAt}
use Rattle.net_digs.proofs.judge.first_of_all.Given as goal

abbrev pub invariant-loop-place : goal.invariant-loop-place
invariant-loop-place l = (k : ℕ) → k < l.place → StaysAt l.p l.net k
