use Rattle.std.proofs.Common.{ℕ, ◌≡◌, List, ◌++◌, take}
use Rattle.cell_slots.specs.Clouds.{AreCellsOf}
use Rattle.cell_slots.specs.Nets.{cells_of_slots}
use Rattle.cell_slots.specs.Stars.{AreBehind}
use Rattle.net_digs.proofs.behind_all.push_behind.Given as goal

abbrev pub invariant-loop-facet : goal.invariant-loop-facet
invariant-loop-facet l =
    ((s : List ℕ) → AreCellsOf s (cells_of_slots l.net ++ l.gone) →
    AreBehind s l.spot (take l.facet-index l.facet-items) l.initial.cells.items l.cells.items)
    × (l.k ≡ l.facet-index)
