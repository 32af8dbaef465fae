use Rattle.std.proofs.Common.{◌≡◌, map, take}
use Rattle.cell_stars.specs.Homes.{home_in}
use Rattle.cell_stars.proofs.homes.Homes.of.Given as goal

abbrev pub invariant-loop-cell : goal.invariant-loop-cell
invariant-loop-cell l = l.list.items ≡ map (home_in l.grid) (take l.cell-index l.cells)
