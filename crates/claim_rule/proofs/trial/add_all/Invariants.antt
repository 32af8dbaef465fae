use Rattle.std.proofs.Common.{take}
use Rattle.claim_rule.specs.Trials.{HasBoth}
use Rattle.claim_rule.proofs.trial.add_all.Given as goal

abbrev pub invariant-loop-p : goal.invariant-loop-p
invariant-loop-p l = HasBoth l.initial.set (take l.p-index l.points) l.set
