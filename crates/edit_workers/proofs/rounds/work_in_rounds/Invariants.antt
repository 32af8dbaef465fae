use Rattle.std.specs.Prelude.{map, take}
use Rattle.edit_workers.specs.Rounds.{AreMadeOrWait, fresh}
use Rattle.edit_workers.proofs.rounds.work_in_rounds.Given as goal

abbrev pub invariant-loop-place : goal.invariant-loop-place
invariant-loop-place g l =
    AreMadeOrWait (map fresh (take l.place l.fn.list.pairs.items)) l.waiting.items l.initial.pass l.pass
