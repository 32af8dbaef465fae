use Rattle.std.proofs.Common.{arith}
use borrow.Author.Count.{below_more}
use Rattle.cell_stars.specs.Adding.{HasStarAt}
use Rattle.cell_stars.proofs.AddLaws.{none_of}
use Rattle.cell_stars.proofs.adding.star_among.Goals as goal

pub loop-at-preserved : goal.loop-at-preserved
loop-at-preserved c =
    below_more (λ k. HasStarAt c.args.writes.now k c.args.p → ⊥) c.loop-at.at c.loop-at.invariant
    (rw c.if-is_of.false at c.is_of.ensures)

pub returns : goal.returns
returns c = none_of c.args.writes.now c.loop-at.at c.args.p (omega arith) c.loop-at.invariant
