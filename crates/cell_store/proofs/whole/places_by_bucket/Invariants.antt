use Rattle.std.proofs.Common.{take}
use Rattle.cell_store.specs.Wholes.{AreCellsParted}
use Rattle.cell_store.proofs.WholeLaws.{lists_in}
use Rattle.cell_store.proofs.whole.places_by_bucket.Given as goal

abbrev pub invariant-loop-place : goal.invariant-loop-place
invariant-loop-place l = AreCellsParted l.grid l.cells (take l.place l.cells) (lists_in l.lists.items)
