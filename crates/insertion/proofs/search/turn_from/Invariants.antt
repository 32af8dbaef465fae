use Rattle.std.proofs.Common.{ℕ, List}
use Rattle.hole_laws.specs.Edits.{IsNew}
use Rattle.cell_store.specs.Shares.{Shows}
use Rattle.insertion.specs.declared.search.Search.TheVariants.{InTurn}
use Rattle.insertion.specs.Searches.{IsSearchIn}
use Rattle.insertion.proofs.search.turn_from.Given as goal

abbrev pub invariant-loop-b : goal.invariant-loop-b
invariant-loop-b l =
    (s : List ℕ) → Shows l.fn.hold s → IsNew s l.fn.p → IsSearchIn l.fn.hold s l.fn.p (InTurn l.fn.from) →
    IsSearchIn l.fn.hold s l.fn.p (InTurn l.b)
