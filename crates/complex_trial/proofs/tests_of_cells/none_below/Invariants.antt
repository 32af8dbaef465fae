-- the answer for what is left is the answer for all
use Rattle.std.proofs.Common.{◌≡◌, pos, drop}
use Rattle.std.specs.List.{list_all}
use Rattle.std.specs.Int.Signed.{le_z}
use Rattle.point_order.specs.Orientation.{orientation}
use Rattle.complex_trial.proofs.tests_of_cells.none_below.Given as goal

abbrev pub invariant-loop-e : goal.invariant-loop-e
invariant-loop-e l =
    list_all (λ e. le_z (pos 0) (orientation l.a l.b l.c e)) (drop l.e-index l.points)
    ≡ list_all (λ e. le_z (pos 0) (orientation l.a l.b l.c e)) l.points
