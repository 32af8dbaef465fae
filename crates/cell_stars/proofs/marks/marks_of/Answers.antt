use Rattle.std.proofs.Common.{refl, get_or}
use Rattle.cell_stars.proofs.Marked.{marked_none, marked_more, marked_all}
use Rattle.cell_stars.proofs.marks.marks_of.Goals as goal

pub loop-at-init : goal.loop-at-init
loop-at-init c = marked_none _ c.args.list.now refl

pub loop-at-preserved : goal.loop-at-preserved
loop-at-preserved c =
    marked_more c.loop-at.marks c.args.list.now c.loop-at.at (get_or c.args.list.now c.loop-at.at 0) c.mark_of.result
    c.loop-at-test.true refl c.mark_of.ensures c.loop-at.invariant

pub returns : goal.returns
returns c = marked_all c.loop-at.marks c.args.list.now c.loop-at.at c.loop-at-test.false c.loop-at.invariant
