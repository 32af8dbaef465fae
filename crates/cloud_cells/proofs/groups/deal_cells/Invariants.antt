use Rattle.std.proofs.Common.{◌≡◌, ◌++◌, length}
use Rattle.cloud_cells.specs.Groups.{cells_of_groups, points_of_groups}
use Rattle.cell_slots.specs.Nets.{AreMoved, cells_of_slots}
use Rattle.cloud_cells.proofs.groups.deal_cells.Given as goal

abbrev pub invariant-loop-page : goal.invariant-loop-page
invariant-loop-page l =
    AreMoved (cells_of_groups l.initial.groups.items ++ cells_of_slots l.initial.net)
    (cells_of_groups l.groups.items ++ cells_of_slots l.net)
    × (points_of_groups l.groups.items ≡ points_of_groups l.initial.groups.items)
    × (length l.groups.items ≡ length l.initial.groups.items)

abbrev pub decreases-loop-page : goal.decreases-loop-page
decreases-loop-page l = length l.net
