-- the answer for what is left is the answer for all
use Rattle.std.proofs.Common.{◌≡◌, pos, drop}
use Rattle.std.specs.List.{find}
use Rattle.std.specs.Int.Signed.{lt_z}
use Rattle.point_order.specs.Orientation.{orientation}
use Rattle.complex_trial.proofs.tests_of_cells.first_above.Given as goal

abbrev pub invariant-loop-f : goal.invariant-loop-f
invariant-loop-f l =
    find (λ f. lt_z (pos 0) (orientation l.a l.b l.c f)) (drop l.f-index l.points)
    ≡ find (λ f. lt_z (pos 0) (orientation l.a l.b l.c f)) l.points
