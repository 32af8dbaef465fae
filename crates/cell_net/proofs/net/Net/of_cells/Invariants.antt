use Rattle.std.proofs.Common.{◌≡◌, take}
use Rattle.cell_slots.specs.Nets.{cells_of_slots}
use Rattle.cell_net.proofs.net.Net.of_cells.Given as goal

abbrev pub invariant-loop-cell : goal.invariant-loop-cell
invariant-loop-cell l = cells_of_slots l.slots.items ≡ take l.cell-index l.cells
