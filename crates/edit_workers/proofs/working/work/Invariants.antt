use Rattle.std.proofs.Common.{take}
use Rattle.edit_workers.specs.Working.{IsWorked}
use Rattle.edit_workers.proofs.working.work.Given as goal

abbrev pub invariant-loop-pair : goal.invariant-loop-pair
invariant-loop-pair g l = IsWorked (take l.pair-index l.fn.list.pairs.items) l.left.pairs.items l.initial.pass l.pass
