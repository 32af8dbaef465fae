use Rattle.std.proofs.Common.{◌≡◌, take}
use Rattle.cell_lists.proofs.list.QuadList.of.Given as goal

-- so many of the cells are in the list
abbrev pub invariant-loop-quad : goal.invariant-loop-quad
invariant-loop-quad l = l.list ≡ take l.quad-index l.cells
