use Rattle.std.proofs.Common.{◌≡◌, ◌+◌, length}
use Rattle.cell_slots.specs.Nets.{cells_of_slots}
use Rattle.net_digs.proofs.refill.make_room.Given as goal

abbrev pub invariant-loop : goal.invariant-loop
invariant-loop l =
    (cells_of_slots l.net ≡ cells_of_slots l.initial.net)
    × (length l.net ≡ length l.initial.net + l.counter)
