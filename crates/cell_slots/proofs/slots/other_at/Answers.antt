use Rattle.std.proofs.Common.{sym, ◌∙◌}
use Rattle.cell_slots.proofs.Nets.{live_in}
use Rattle.cell_slots.proofs.slots.other_at.Goals as goal

pub returns-then-number-lt4 : goal.returns-then-number-lt4
returns-then-number-lt4 c =
    let there = sym c.cell_at.ensures ∙ c.in_ok-other.was in
    let is = c.number_across-number.ensures.0 c.if-number-lt4.true in
    record {
      other = c.in_ok-other.other;
      at = there;
      is = record { listed = live_in c.args.slots.now c.args.i c.in_ok-other.other there; has = is.0; differs = is.1 };
    }
