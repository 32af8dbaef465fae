use Rattle.std.proofs.Common.{arith}
use Rattle.cell_stars.proofs.planner.grown_stars.Goals as goal

pub returns-then-end-stars-clause-long : goal.returns-then-end-stars-clause-long
returns-then-end-stars-clause-long c n s m = (let t = c.requires n s m in omega (arith, t, c.if-end-stars.true))

pub returns-clause-long : goal.returns-clause-long
returns-clause-long c n s m = (let t = c.requires n s m in let e = c.max-count.ensures in let l =
    c.in_ok-add_stars.ensures.long in omega (arith, t, e, l))
