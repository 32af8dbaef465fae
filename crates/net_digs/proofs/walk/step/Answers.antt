use Rattle.std.proofs.Common.{sym, ◌∙◌}
use Rattle.cell_slots.proofs.Cited.{live_in}
use Rattle.net_digs.proofs.walk.step.Goals as goal

pub is_in_conflict-requires-clause-among : goal.is_in_conflict-requires-clause-among
is_in_conflict-requires-clause-among c =
    live_in c.args.net.now c.args.place c.in_ok-spot.spot (sym c.spot_in.ensures ∙ c.in_ok-spot.was)
