use Rattle.std.proofs.Common.{take}
use Rattle.cell_slots.specs.Nets.{cells_of_slots}
use Rattle.cell_slots.specs.Parts.{ArePut}
use Rattle.cloud_cells.proofs.threads.put_by_threads.Given as goal

abbrev pub invariant-loop-turn : goal.invariant-loop-turn
invariant-loop-turn g l =
    ArePut (take l.turn-index l.turns) l.waiting.items (cells_of_slots l.initial.net) (cells_of_slots l.net)
