use Rattle.std.proofs.Common.{◌≡◌, ℕ, true, take, MatchOption}
use Rattle.point_order.specs.Sets.{IsIn}
use Rattle.cell_stars.specs.Places.{lies_in}
use Rattle.cell_stars.specs.Moves.{IsStarFor}
use Rattle.cell_stars.proofs.cells.Cells.shortest_star.Given as goal

abbrev pub invariant-loop-p : goal.invariant-loop-p
invariant-loop-p l =
    MatchOption l.shortest ((p : ℕ) → IsIn p (take l.p-index l.p-items) → lies_in l.self.place p ≡ true →
    ⊥) (λ star. IsStarFor l.self l.cell star.now)
