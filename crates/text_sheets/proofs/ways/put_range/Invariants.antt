-- a front of the lines was put, and the others are not yet
use Rattle.std.proofs.Common.{drop, take}
use Rattle.std.specs.List.{concat}
use Rattle.text_sheets.specs.Ways.{lines_from}
use Rattle.text_sheets.proofs.Sheets.{PutsBut}
use Rattle.text_sheets.proofs.ways.put_range.Given as goal

abbrev pub invariant-loop-number : goal.invariant-loop-number
invariant-loop-number g l =
    PutsBut g.O.Sink.holds g.O.Sink.faults l.fn.sheet l.sheet
    (concat (drop l.number (take l.to (g.L.Lines.lines_of l.lines))))
    (lines_from l.from l.to (g.L.Lines.lines_of l.lines))
