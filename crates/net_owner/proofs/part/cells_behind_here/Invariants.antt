use Rattle.std.proofs.Common.{◌++◌, take}
use Rattle.cell_slots.specs.Nets.{cells_of_slots}
use Rattle.cell_slots.specs.Parts.{InEachSet}
use Rattle.cell_slots.specs.Stars.{AreBehindAll}
use Rattle.net_owner.proofs.part.cells_behind_here.Given as goal

abbrev pub invariant-loop-spot : goal.invariant-loop-spot
invariant-loop-spot l =
    InEachSet (cells_of_slots l.net ++ l.gone) (λ s. AreBehindAll s (take l.spot-index l.gone) l.star l.cells.items)
