use Rattle.std.proofs.Common.{ℕ, List, ◌++◌, take}
use Rattle.cell_slots.specs.Clouds.{AreCellsOf}
use Rattle.cell_slots.specs.Nets.{cells_of_slots}
use Rattle.cell_slots.specs.Stars.{AreBehindAll}
use Rattle.net_digs.proofs.behind_all.cells_behind.Given as goal

abbrev pub invariant-loop-spot : goal.invariant-loop-spot
invariant-loop-spot l =
    (s : List ℕ) → AreCellsOf s (cells_of_slots l.net ++ l.gone) →
    AreBehindAll s (take l.spot-index l.gone) l.star l.cells.items
