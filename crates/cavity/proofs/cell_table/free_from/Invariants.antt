use Rattle.std.proofs.Common.{◌≢◌, ℕ, ◌<◌, ◌≤◌, get_or}
use Rattle.cavity.specs.declared.cell_table.Mark.TheVariants.{Free}
use Rattle.cavity.proofs.cell_table.free_from.Given as goal

abbrev pub invariant-loop-at : goal.invariant-loop-at
invariant-loop-at l = (k : ℕ) → l.home ≤ k → k < l.at → get_or l.marks k Free ≢ Free
