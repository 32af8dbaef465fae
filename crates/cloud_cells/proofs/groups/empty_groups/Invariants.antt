use Rattle.std.proofs.Common.{◌≡◌, ◌+◌, ◌-◌, [], length}
use Rattle.cloud_cells.specs.Groups.{cells_of_groups, points_of_groups}
use Rattle.cloud_cells.proofs.groups.empty_groups.Given as goal

abbrev pub invariant-fill : goal.invariant-fill
invariant-fill l =
    (l.net ≡ l.initial.net) × (cells_of_groups l.groups.items ≡ []) × (points_of_groups l.groups.items ≡ [])

abbrev pub decreases-fill : goal.decreases-fill
decreases-fill l = l.last + 1 - length l.groups.items
