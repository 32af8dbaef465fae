use Rattle.std.proofs.Common.{◌++◌, length}
use Rattle.cloud_cells.specs.Groups.{cells_of_groups, points_of_groups}
use Rattle.cell_slots.specs.Nets.{AreMoved, cells_of_slots}
use Rattle.cloud_cells.proofs.groups.gather.Given as goal

abbrev pub invariant-loop-group : goal.invariant-loop-group
invariant-loop-group l =
    AreMoved (cells_of_slots l.initial.net ++ cells_of_groups l.initial.groups.items)
    (cells_of_slots l.net ++ cells_of_groups l.groups.items)
    × AreMoved (l.initial.waiting.items ++ points_of_groups l.initial.groups.items)
    (l.waiting.items ++ points_of_groups l.groups.items)

abbrev pub decreases-loop-group : goal.decreases-loop-group
decreases-loop-group l = length l.groups.items
