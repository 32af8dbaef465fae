use Rattle.std.proofs.Common.{ℕ, ◌≤◌, ◌≡◌, pos}
use Rattle.point_order.specs.Laws.{coefficient}
use Rattle.sphere_ties.proofs.looks.first_coefficient.Given as goal

-- the points from the limit on have the coefficient 0
abbrev pub invariant-looks : goal.invariant-looks
invariant-looks l = (q : ℕ) → l.limit ≤ q → coefficient l.a l.b l.c l.d l.e q ≡ pos 0

abbrev pub decreases-looks : goal.decreases-looks
decreases-looks l = l.limit
