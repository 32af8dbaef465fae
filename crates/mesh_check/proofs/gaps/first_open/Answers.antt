use Rattle.mesh_check.proofs.Facets.{all_met, least_open, no_length, none_met, one_pair, pair_shorter, pair_sorted}
use Rattle.mesh_check.proofs.gaps.first_open.Goals as goal

pub loop-first-init : goal.loop-first-init
loop-first-init c = (c.requires, λ part cells are. none_met cells c.args.sides.now)

pub loop-first-preserved : goal.loop-first-preserved
loop-first-preserved c = (
  pair_sorted c.loop-first.rest.now c.in-Some.first.now c.in-Some.others.now c.in-Some-behind_pair.after.now
      c.in-Some.ensures.cases.0 c.loop-first.invariant.0 c.in-Some-behind_pair.ensures,
  λ part cells are.
      one_pair part cells c.args.sides.now c.loop-first.rest.now c.in-Some.others.now c.in-Some-behind_pair.after.now
      c.in-Some.first.now c.in-Some.ensures.cases.0 are c.loop-first.invariant.0
      (c.loop-first.invariant.1 part cells are) c.in-Some-behind_pair.ensures,
)

pub loop-first-smaller : goal.loop-first-smaller
loop-first-smaller c = pair_shorter c.loop-first.rest.now c.in-Some.first.now c.in-Some.others.now
    c.in-Some-behind_pair.after.now c.in-Some.ensures.cases.0 c.in-Some-behind_pair.ensures

pub returns-in-None : goal.returns-in-None
returns-in-None c part l are =
    least_open part l c.args.sides.now c.loop-first.rest.now c.in-Some.others.now c.in-Some.first.now
    c.in-Some.ensures.cases.0 are c.loop-first.invariant.0 (c.loop-first.invariant.1 part l are) c.in-None.ensures

pub returns : goal.returns
returns c part l are = all_met part l c.args.sides.now c.loop-first.rest.now
    (no_length c.loop-first.rest.now c.in_default.ensures.cases) are (c.loop-first.invariant.1 part l are)
