use Rattle.std.proofs.Common.{◌≡◌, false, take}
use Rattle.std.specs.List.{list_any}
use Rattle.cell_store.specs.Wholes.{lies_at}
use Rattle.cell_store.proofs.whole.has_here.Given as goal

abbrev pub invariant-loop-p : goal.invariant-loop-p
invariant-loop-p l = list_any (lies_at l.grid l.b) (take l.p-index l.points) ≡ false
