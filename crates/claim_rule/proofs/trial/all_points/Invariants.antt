use Rattle.claim_rule.proofs.Gathered.{HasBelow}
use Rattle.claim_rule.proofs.trial.all_points.Given as goal

abbrev pub invariant-loop-b : goal.invariant-loop-b
invariant-loop-b l = HasBelow l.fn.hold.places l.b l.set
