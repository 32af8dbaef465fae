use Rattle.std.proofs.Common.{ℕ, List}
use Rattle.hole_laws.specs.Edits.{IsNew}
use Rattle.cell_store.specs.Shares.{Shows}
use Rattle.insertion.specs.declared.search.Search.TheVariants.{On}
use Rattle.insertion.specs.Searches.{IsSearchIn}
use Rattle.insertion.proofs.search.walk_on.Given as goal

abbrev pub invariant-loop : goal.invariant-loop
invariant-loop l =
    (s : List ℕ) → Shows l.fn.hold s → IsNew s l.fn.p → IsSearchIn l.fn.hold s l.fn.p (On l.fn.start) →
    IsSearchIn l.fn.hold s l.fn.p (On l.walk)
