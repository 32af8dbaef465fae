use Rattle.std.proofs.Common.{◌≡◌, ◌++◌, take}
use Rattle.cell_slots.specs.Nets.{cells_of_slots}
use Rattle.cell_slots.specs.Parts.{InEachSet}
use Rattle.cell_slots.specs.Stars.{AreBehind}
use Rattle.net_owner.proofs.part.push_behind_here.Given as goal

abbrev pub invariant-loop-facet : goal.invariant-loop-facet
invariant-loop-facet l =
    InEachSet (cells_of_slots l.net ++ l.gone) (λ s.
    AreBehind s l.spot (take l.facet-index l.facet-items) l.initial.cells.items l.cells.items)
    × (l.k ≡ l.facet-index)
