use Rattle.std.proofs.Common.{◌≡◌, ◌+◌, length, take}
use Rattle.cell_slots.specs.Nets.{AreWithAll, cells_of_slots}
use Rattle.net_digs.proofs.star.give_back.Given as goal

abbrev pub invariant-loop-spot : goal.invariant-loop-spot
invariant-loop-spot l =
    AreWithAll (cells_of_slots l.initial.net) (take l.spot-index l.gone) (cells_of_slots l.net)
    × (length l.net ≡ length l.initial.net)
    × (length (cells_of_slots l.net) ≡ length (cells_of_slots l.initial.net) + l.spot-index)
