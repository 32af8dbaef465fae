use Rattle.part_edits.proofs.Worked.{AreWorkedTo}
use Rattle.part_edits.proofs.work.make_lines.Given as goal

abbrev pub invariant-loop-i : goal.invariant-loop-i
invariant-loop-i l =
    AreWorkedTo l.initial.known.keys l.lines l.initial.linked.cells l.i l.answers.items l.linked.cells l.known.keys
