use Rattle.std.proofs.Common.{◌≡◌, map, take, Some}
use Rattle.cell_stars.proofs.at_once.slots_of.Given as goal

abbrev pub invariant-loop-number : goal.invariant-loop-number
invariant-loop-number l = l.slots.items ≡ map (λ c. Some c) (take l.number l.cells)
