use Rattle.std.proofs.Common.{◌∙◌, sym, pos}
use Rattle.std.specs.Int.Signed.{lt_z}
use Rattle.point_order.specs.Orientation.{orientation}
use Rattle.complex_trial.proofs.Apart.{found_passes, above_is}
use Rattle.complex_trial.proofs.tests_of_cells.is_open_seen_from.Goals as goal

pub all_leave_plane-requires-clause-above : goal.all_leave_plane-requires-clause-above
all_leave_plane-requires-clause-above c =
    above_is (orientation c.args.a c.args.b c.args.c c.in-Some.mate)
    (found_passes (λ f. lt_z (pos 0) (orientation c.args.a c.args.b c.args.c f)) c.args.points.now c.in-Some.mate
    (sym c.first_above.ensures ∙ c.in-Some.is))
