use Rattle.std.proofs.Common.{◌≡◌, ◌++◌, length, take}
use Rattle.cell_slots.specs.Nets.{AreMoved, cells_of_slots}
use Rattle.net_digs.proofs.grow.take_all.Given as goal

abbrev pub invariant-loop-spot : goal.invariant-loop-spot
invariant-loop-spot l =
    AreMoved (cells_of_slots l.fn.net) (cells_of_slots l.net ++ take l.spot-index l.gone)
    × (length l.net ≡ length l.fn.net)
