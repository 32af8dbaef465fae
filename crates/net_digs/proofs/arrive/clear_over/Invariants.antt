use Rattle.std.proofs.Common.{◌≡◌, ◌++◌, length, map, take}
use Rattle.hole_laws.specs.Lists.{cell_over}
use Rattle.cell_slots.specs.Nets.{AreMoved, cells_of_slots}
use Rattle.net_digs.proofs.arrive.clear_over.Given as goal

abbrev pub invariant-loop-side : goal.invariant-loop-side
invariant-loop-side l =
    AreMoved (cells_of_slots l.fn.net)
    (cells_of_slots l.net ++ take l.side-index (map (λ f. cell_over f l.fn.p) l.rim))
    × (length l.net ≡ length l.fn.net)
