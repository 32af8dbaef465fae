use Rattle.std.proofs.Common.{refl, slice_index_or}
use Rattle.list_laws.proofs.Cited.{at_place}
use Rattle.edit_history.specs.declared.history.Edit.TheVariants.{Add}
use Rattle.part_edits.proofs.Worked.{worked_known, worked_next, worked_none}
use Rattle.part_edits.proofs.work.make_lines.Goals as goal

pub loop-i-init : goal.loop-i-init
loop-i-init c =
    worked_none c.args.known.now.keys c.args.lines.now c.args.linked.now.cells c.in_ok-answers.answers.items
    c.in_ok-answers.ensures.len c.in_ok-answers.ensures.none c.requires.ascending

pub answer_to-answer-requires-clause-part : goal.answer_to-answer-requires-clause-part
answer_to-answer-requires-clause-part c d =
    let line = slice_index_or c.args.lines.now c.loop-i.i d in
    worked_known c.args.known.now.keys c.args.lines.now c.args.linked.now.cells c.loop-i.i c.loop-i.answers.items
    c.loop-i.linked.cells c.loop-i.known.keys c.loop-i.invariant c.requires.part line
    (at_place c.args.lines.now c.loop-i.i line d c.loop-i-test.true refl)

pub loop-i-preserved : goal.loop-i-preserved
loop-i-preserved c =
    worked_next c.args.known.now.keys c.args.lines.now c.args.linked.now.cells c.loop-i.i c.loop-i.answers.items
    c.loop-i.linked.cells c.loop-i.known.keys c.loop-i.invariant (0, Add 0) c.loop-i-test.true c.answer_to-answer.result
    c.answer_to-answer.new.linked.cells c.answer_to-answer.new.known.keys
    (rw c.deref.ensures.value at c.answer_to-answer.ensures)
