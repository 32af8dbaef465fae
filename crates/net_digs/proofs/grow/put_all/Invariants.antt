use Rattle.std.proofs.Common.{map, take}
use Rattle.hole_laws.specs.Lists.{cell_over}
use Rattle.cell_slots.specs.Nets.{AreWithAll, cells_of_slots}
use Rattle.net_digs.proofs.grow.put_all.Given as goal

abbrev pub invariant-loop-side : goal.invariant-loop-side
invariant-loop-side l = AreWithAll (cells_of_slots l.initial.net) (map (λ f. cell_over f l.p) (take l.side-index l.rim))
    (cells_of_slots l.net)
