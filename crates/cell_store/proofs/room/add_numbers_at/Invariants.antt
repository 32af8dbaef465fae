use Rattle.list_laws.proofs.Cited.{Gathered}
use Rattle.cell_store.specs.Ready.{IsBucketOf}
use Rattle.cell_store.proofs.room.add_numbers_at.Given as goal

abbrev pub invariant-loop-p : goal.invariant-loop-p
invariant-loop-p l = Gathered (IsBucketOf l.grid) l.points l.p-index l.fn.numbers.items l.numbers.items
