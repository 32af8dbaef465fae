use Rattle.part_edits.proofs.Worked.{answered_so}
use Rattle.part_edits.proofs.work.answer_to.Goals as goal

pub make_or_leave-requires-clause-part : goal.make_or_leave-requires-clause-part
make_or_leave-requires-clause-part c = c.requires.part c.index-lines-i.result

pub returns : goal.returns
returns c =
    answered_so c.args.lines.now c.args.answers.now c.args.i c.index-lines-i.result c.make_or_leave.result
    c.args.known.now.keys c.make_or_leave.new.known.keys c.args.linked.now.cells c.make_or_leave.new.linked.cells
    c.requires.within c.make_or_leave.ensures.made c.make_or_leave.ensures.known
    (c.shares_with_left.ensures c.if-shares_with_left.false)
