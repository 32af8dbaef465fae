use Rattle.std.proofs.Common.{◌≡◌, take}
use Rattle.cell_lists.proofs.list.QuadList.to_vec.Given as goal

-- so many of the cells were given
abbrev pub invariant-loop-place : goal.invariant-loop-place
invariant-loop-place l = l.cells.items ≡ take l.place l.self
