use Rattle.std.specs.Prelude.{◌≡◌, ◌<◌, []}
use Rattle.edit_workers.specs.Rounds.{AllFresh, AreMadeOrWait}
use Rattle.edit_workers.specs.Trying.{OwnsAll}
use Rattle.edit_workers.proofs.rounds.finish.Given as goal

abbrev pub invariant-loop-round : goal.invariant-loop-round
invariant-loop-round g l = record {
  made : AreMadeOrWait l.fn.waiting.items l.kept.items l.initial.pass l.pass;
  none : 0 < l._round → OwnsAll l.initial.pass → AllFresh l.fn.waiting.items → l.kept.items ≡ [];
}
