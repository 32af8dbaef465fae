-- the answer for what is left is the answer for all
use Rattle.std.proofs.Common.{◌≡◌, pos, [], ◌∷◌, drop}
use Rattle.std.specs.Prelude.{◌||◌, not}
use Rattle.std.specs.List.{list_all}
use Rattle.std.specs.Int.Signed.{lt_z}
use Rattle.point_order.specs.Orientation.{is_flat}
use Rattle.point_order.specs.Heights.{out}
use Rattle.point_order.specs.Sets.{is_among}
use Rattle.complex_trial.proofs.tests_of_cells.all_leave_plane.Given as goal

abbrev pub invariant-loop-e : goal.invariant-loop-e
invariant-loop-e l =
    list_all (λ e. is_among e (l.a ∷ l.b ∷ l.c ∷ []) || not (is_flat l.a l.b l.c e)
    || lt_z (pos 0) (out l.a l.b l.c l.mate e)) (drop l.e-index l.points)
    ≡ list_all (λ e. is_among e (l.a ∷ l.b ∷ l.c ∷ []) || not (is_flat l.a l.b l.c e)
    || lt_z (pos 0) (out l.a l.b l.c l.mate e)) l.points
