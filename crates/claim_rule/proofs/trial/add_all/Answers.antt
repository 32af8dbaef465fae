use Rattle.claim_rule.proofs.Gathered.{one_more, all_more}
use Rattle.claim_rule.proofs.trial.add_all.Goals as goal

pub loop-p-preserved : goal.loop-p-preserved
loop-p-preserved c =
    one_more c.args.set.now c.loop-p.set c.after.new.self c.args.points.now c.loop-p.p-index c.p-item.result
    c.loop-p-test.true c.p-item.is c.loop-p.invariant c.in_ok-after.ensures.set

pub returns : goal.returns
returns c =
    all_more c.args.set.now c.loop-p.set c.args.points.now c.loop-p.p-index c.loop-p-test.false c.loop-p.invariant
