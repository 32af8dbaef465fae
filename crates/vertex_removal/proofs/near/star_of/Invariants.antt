use Rattle.std.proofs.Common.{◌≡◌, ◌++◌}
use Rattle.cell_store.specs.Stars.{cells_around}
use Rattle.vertex_removal.proofs.near.star_of.Given as goal

abbrev pub invariant-loop-cell : goal.invariant-loop-cell
invariant-loop-cell l = l.star.items ++ cells_around l.cell-iterator ≡ cells_around l.initial.cell-iterator
