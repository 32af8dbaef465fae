use Rattle.std.specs.Prelude.{◌≤◌}
use Rattle.edit_workers.specs.Trying.{HasMissed}
use Rattle.edit_workers.proofs.working.try_often.Given as goal

abbrev pub invariant-loop-tries : goal.invariant-loop-tries
invariant-loop-tries g l = HasMissed l._tries l.initial.pass l.pass × (l._tries ≤ 64)
