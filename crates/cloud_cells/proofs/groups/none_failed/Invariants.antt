use Rattle.std.proofs.Common.{◌≡◌, false, take}
use Rattle.point_order.specs.Sets.{IsIn}
use Rattle.cloud_cells.specs.declared.groups.Group.{Group}
use Rattle.cloud_cells.proofs.groups.none_failed.Given as goal

abbrev pub invariant-loop-group : goal.invariant-loop-group
invariant-loop-group l = (group : Group) → IsIn group (take l.group-index l.groups) → group.has_failed ≡ false
