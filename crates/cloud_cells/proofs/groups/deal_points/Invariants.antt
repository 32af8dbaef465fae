use Rattle.std.proofs.Common.{◌≡◌, ◌++◌, length}
use Rattle.cloud_cells.specs.Groups.{cells_of_groups, points_of_groups}
use Rattle.cell_slots.specs.Nets.{AreMoved}
use Rattle.cloud_cells.proofs.groups.deal_points.Given as goal

abbrev pub invariant-loop-turn : goal.invariant-loop-turn
invariant-loop-turn l =
    AreMoved (points_of_groups l.initial.groups.items ++ l.initial.waiting.items)
    (points_of_groups l.groups.items ++ l.waiting.items)
    × (cells_of_groups l.groups.items ≡ cells_of_groups l.initial.groups.items)
    × (length l.groups.items ≡ length l.initial.groups.items)

abbrev pub decreases-loop-turn : goal.decreases-loop-turn
decreases-loop-turn l = length l.waiting.items
