use Rattle.std.proofs.Common.{sym, ◌≡◌, ◌∙◌}
use Rattle.cell_slots.specs.declared.reach.Reach.TheVariants.{Whole}
use Rattle.net_digs.proofs.Marked.{judged_at}
use Rattle.cell_slots.proofs.Cited.{live_in}
use Rattle.net_digs.proofs.judge.goes_at.Goals as goal

pub is_in_conflict-requires-clause-among : goal.is_in_conflict-requires-clause-among
is_in_conflict-requires-clause-among c =
    live_in c.args.net.now c.args.place c.in-Some.spot (sym c.spot_in.ensures ∙ c.in-Some.is)

pub returns-in-Some-is_in_conflict : goal.returns-in-Some-is_in_conflict
returns-in-Some-is_in_conflict c =
    judged_at c.args.p c.args.net.now c.args.place c.in-Some.spot c.in-Some-is_in_conflict.goes
    (c.args.reach ≡ Whole) (sym c.spot_in.ensures ∙ c.in-Some.is) c.in-Some-is_in_conflict.ensures
