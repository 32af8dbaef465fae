use Rattle.std.specs.Prelude.{ℕ, List}
use Rattle.cell_store.specs.Shares.{Shows}
use Rattle.worked_cases.proofs.meshes.take_those.Given as goal

abbrev pub invariant-loop-b : goal.invariant-loop-b
invariant-loop-b l = (s : List ℕ) → Shows l.initial.hold s → Shows l.hold s
