use Rattle.std.proofs.Common.{take}
use Rattle.cell_store.specs.Wholes.{AreAt}
use Rattle.cell_store.proofs.whole.cells_at.Given as goal

abbrev pub invariant-loop-place : goal.invariant-loop-place
invariant-loop-place l = AreAt l.cells (take l.place-index l.places) l.list.items
