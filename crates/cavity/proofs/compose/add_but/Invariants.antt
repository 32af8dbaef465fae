use Rattle.list_laws.proofs.Cited.{Gathered}
use Rattle.cavity.specs.Both.{IsOtherThan}
use Rattle.cavity.proofs.compose.add_but.Given as goal

abbrev pub invariant-loop-c : goal.invariant-loop-c
invariant-loop-c l = Gathered (IsOtherThan l.others) l.cells l.c-index l.fn.list.items l.list.items
