use Rattle.std.proofs.Common.{◌≡◌, ◌+◌, length, map, take}
use Rattle.hole_laws.specs.Lists.{cell_over}
use Rattle.cell_slots.specs.Nets.{AreWithAll, cells_of_slots}
use Rattle.net_digs.proofs.arrive.fill_over.Given as goal

abbrev pub invariant-loop-side : goal.invariant-loop-side
invariant-loop-side l =
    AreWithAll (cells_of_slots l.fn.net) (map (λ f. cell_over f l.fn.p) (take l.side-index l.rim))
    (cells_of_slots l.net)
    × (length l.net ≡ length l.fn.net)
    × (length (cells_of_slots l.net) ≡ length (cells_of_slots l.fn.net) + l.side-index)
