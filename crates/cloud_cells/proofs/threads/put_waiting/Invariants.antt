use Rattle.cell_slots.specs.Nets.{cells_of_slots}
use Rattle.cell_slots.specs.Parts.{ArePut}
use Rattle.cloud_cells.proofs.threads.put_waiting.Given as goal

abbrev pub invariant-loop : goal.invariant-loop
invariant-loop g l =
    ArePut l.initial.waiting.items l.waiting.items (cells_of_slots l.initial.net) (cells_of_slots l.net)
