use Rattle.std.specs.Prelude.{◌≡◌, take}
use Rattle.edit_workers.specs.Rounds.{pairs_of}
use Rattle.edit_workers.proofs.rounds.left_over.Given as goal

abbrev pub invariant-loop-one : goal.invariant-loop-one
invariant-loop-one l = l.pairs.items ≡ pairs_of (take l.one-index l.waiting)
