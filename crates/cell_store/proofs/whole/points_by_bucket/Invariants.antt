use Rattle.std.proofs.Common.{take}
use Rattle.cell_store.specs.Wholes.{AreParted, lies_at}
use Rattle.cell_store.proofs.WholeLaws.{lists_in}
use Rattle.cell_store.proofs.whole.points_by_bucket.Given as goal

abbrev pub invariant-loop-p : goal.invariant-loop-p
invariant-loop-p l = AreParted l.grid (lies_at l.grid) (take l.p-index l.points) (lists_in l.lists.items)
