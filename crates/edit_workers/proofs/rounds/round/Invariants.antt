use Rattle.std.specs.Prelude.{◌≡◌, [], take}
use Rattle.edit_workers.specs.Rounds.{AllFresh, AreMadeOrWait}
use Rattle.edit_workers.specs.Trying.{OwnsAll}
use Rattle.edit_workers.proofs.rounds.round.Given as goal

abbrev pub invariant-loop-one : goal.invariant-loop-one
invariant-loop-one g l = record {
  made : AreMadeOrWait (take l.one-index l.waiting) l.kept.items l.initial.pass l.pass;
  none : OwnsAll l.initial.pass → AllFresh (take l.one-index l.waiting) → l.kept.items ≡ [];
}
