use Rattle.std.proofs.Common.{ℕ, ◌<◌}
use Rattle.cell_stars.specs.Adding.{HasStarAt}
use Rattle.cell_stars.proofs.adding.star_among.Given as goal

abbrev pub invariant-loop-at : goal.invariant-loop-at
invariant-loop-at l = (k : ℕ) → k < l.at → HasStarAt l.writes k l.p → ⊥
