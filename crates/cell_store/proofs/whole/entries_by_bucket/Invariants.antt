use Rattle.std.proofs.Common.{take}
use Rattle.cell_store.specs.Wholes.{AreParted, is_noted_at}
use Rattle.cell_store.proofs.WholeLaws.{lists_in}
use Rattle.cell_store.proofs.whole.entries_by_bucket.Given as goal

abbrev pub invariant-loop-entry : goal.invariant-loop-entry
invariant-loop-entry l = AreParted l.grid (is_noted_at l.grid) (take l.entry-index l.entries) (lists_in l.lists.items)
