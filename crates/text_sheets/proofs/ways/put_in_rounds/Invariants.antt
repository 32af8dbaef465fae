-- a front of the lines was put, and the others are not yet
use Rattle.std.proofs.Common.{◌≡◌, ◌≤◌, ◌-◌, drop, length}
use Rattle.std.specs.List.{concat}
use Rattle.text_sheets.proofs.Sheets.{PutsBut}
use Rattle.text_sheets.proofs.ways.put_in_rounds.Given as goal

abbrev pub invariant-loop-from : goal.invariant-loop-from
invariant-loop-from g l = record {
  within : l.from ≤ l.count;
  all : l.count ≡ length (g.L.Lines.lines_of l.lines);
  puts : PutsBut g.O.Sink.holds g.O.Sink.faults l.fn.sheet l.sheet
      (concat (drop l.from (g.L.Lines.lines_of l.lines)))
      (concat (g.L.Lines.lines_of l.lines));
}

abbrev pub decreases-loop-from : goal.decreases-loop-from
decreases-loop-from g l = l.count - l.from
