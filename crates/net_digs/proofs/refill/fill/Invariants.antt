use Rattle.std.proofs.Common.{◌≡◌, ◌+◌, length, take}
use Rattle.cell_slots.specs.Nets.{AreWithAll, cells_of_slots}
use Rattle.net_digs.proofs.refill.fill.Given as goal

abbrev pub invariant-loop-cell : goal.invariant-loop-cell
invariant-loop-cell l =
    AreWithAll (cells_of_slots l.fn.net) (take l.cell-index l.cells) (cells_of_slots l.net)
    × (length l.net ≡ length l.fn.net)
    × (length (cells_of_slots l.net) ≡ length (cells_of_slots l.fn.net) + l.cell-index)
