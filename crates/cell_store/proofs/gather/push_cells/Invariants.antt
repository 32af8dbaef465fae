use Rattle.std.proofs.Common.{◌≡◌, ◌++◌}
use Rattle.std.specs.List.{filter}
use Rattle.cell_store.specs.Gathered.{is_home}
use Rattle.cell_store.specs.Stars.{cells_to_come}
use Rattle.cell_store.proofs.gather.push_cells.Given as goal

abbrev pub invariant-loop-cell : goal.invariant-loop-cell
invariant-loop-cell l =
    l.list.items ++ filter (is_home l.grid l.b) (cells_to_come l.cell-iterator)
    ≡ l.initial.list.items ++ filter (is_home l.grid l.b) (cells_to_come l.initial.cell-iterator)
