use Rattle.std.proofs.Common.{◌++◌, length}
use Rattle.cell_slots.specs.Nets.{AreMoved, cells_of_slots}
use Rattle.cloud_cells.proofs.groups.gather_cells.Given as goal

abbrev pub invariant-loop-page : goal.invariant-loop-page
invariant-loop-page l =
    AreMoved (cells_of_slots l.initial.net ++ cells_of_slots l.initial.part)
    (cells_of_slots l.net ++ cells_of_slots l.part)

abbrev pub decreases-loop-page : goal.decreases-loop-page
decreases-loop-page l = length l.part
