-- Groups of cells and of points side by side.
use Rattle.std.specs.Prelude.{ℕ, List}
use Rattle.std.specs.List.{flat_map}
use Rattle.point_order.specs.declared.cell.Cell.{Cell}
use Rattle.cell_slots.specs.Nets.{cells_of_slots}
use Rattle.cloud_cells.specs.declared.groups.Group.{Group}

-- the cells of all groups
abbrev pub cells_of_groups : List Group → List Cell
cells_of_groups groups = flat_map (λ g. cells_of_slots g.net) groups

-- and the points that wait for them
abbrev pub points_of_groups : List Group → List ℕ
points_of_groups groups = flat_map (λ g. g.waiting.items) groups
