use Rattle.std.proofs.Common.{ap, ◌∙◌}
use Rattle.cell_slots.specs.Nets.{cells_of_slots}
use Rattle.net_digs.proofs.Ranking.{same_sorted}
use Rattle.net_digs.proofs.ranked.ranked.Goals as goal

pub returns : goal.returns
returns c =
    same_sorted (cells_of_slots c.args.net) c.in_ok-cells.cells.items c.in_ok-packed.packed.items
    c.sort_unstable_by_key.new.self.items c.in_ok-packed.ensures c.sort_unstable_by_key.ensures.permutation
    (c.in_ok-cells.ensures ∙ ap cells_of_slots c.deref.ensures.value)
