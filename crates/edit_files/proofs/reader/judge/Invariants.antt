-- What is left, from the next line on, is judged as the whole text is.
use Rattle.std.proofs.Common.{◌≡◌, ◌+◌, ◌≤◌, length}
use Rattle.text_readings.specs.Judging.{judge}
use Rattle.text_readings.specs.Readings.{lines_of}
use Rattle.edit_files.specs.Grammar.{at_title, up_to}
use Rattle.edit_files.specs.Judging.{file_judge, reached}
use Rattle.edit_files.proofs.reader.judge.Given as goal

abbrev pub invariant-loop-line : goal.invariant-loop-line
invariant-loop-line l = record {
  judged : judge (file_judge (up_to l.fn.newest)) l.number (reached l.reader) (lines_of l.rest)
      ≡ judge (file_judge (up_to l.fn.newest)) 1 at_title (lines_of l.fn.bytes);
  count : l.number + length l.rest ≤ length l.fn.bytes + 1;
}

abbrev pub decreases-loop-line : goal.decreases-loop-line
decreases-loop-line l = length l.rest
