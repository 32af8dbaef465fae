use Rattle.cell_stars.proofs.writes.spare_behind.Goals as goal

pub returns : goal.returns
returns c = (c.loop-n.invariant, c.is_spare.ensures.spare c.loop-n-test.false)
