use Rattle.std.proofs.Common.{◌≡◌, take}
use Rattle.cell_slots.specs.Nets.{cells_of_slots}
use Rattle.cell_net.proofs.net.Net.cells.Given as goal

abbrev pub invariant-loop-place : goal.invariant-loop-place
invariant-loop-place l = l.cells.items ≡ cells_of_slots (take l.place l.fn.self)
