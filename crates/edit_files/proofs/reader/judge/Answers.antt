use Rattle.std.proofs.Common.{◌≡◌, sym, ◌∙◌, arith}
use Rattle.text_readings.specs.Judging.{judge, judged_end}
use Rattle.text_readings.specs.Readings.{lines_of}
use Rattle.text_readings.proofs.Cited.{judge_end, judge_on, judge_refused}
use Rattle.edit_files.specs.Grammar.{at_title, up_to}
use Rattle.edit_files.specs.Judging.{file_judge, reached}
use Rattle.edit_files.proofs.reader.judge.Goals as goal

pub returns-in-Err : goal.returns-in-Err
returns-in-Err c =
    rw c.of_line.ensures
    (judge_refused (file_judge (up_to c.args.newest)) c.in-Err.refused c.loop-line.number (reached c.loop-line.reader)
    (lines_of c.loop-line.rest.now) c.in-Some.line.now (lines_of c.in-Some.after.now) _ c.in-Some.ensures.lines
    c.in-Err.ensures c.loop-line.invariant.judged)

pub loop-line-preserved : goal.loop-line-preserved
loop-line-preserved c = record {
  judged = sym (judge_on (file_judge (up_to c.args.newest)) c.loop-line.number (reached c.loop-line.reader)
      (reached c.take_line.new.self) (lines_of c.loop-line.rest.now) c.in-Some.line.now (lines_of c.in-Some.after.now)
      c.in-Some.ensures.lines c.in-Ok.ensures) ∙ c.loop-line.invariant.judged;
  count = omega (arith, c.in-Some.ensures.shorter);
}

pub returns : goal.returns
returns c =
    let e : judge (file_judge (up_to c.args.newest)) 1 at_title (lines_of c.args.bytes.now)
    ≡ judged_end (file_judge (up_to c.args.newest)) c.loop-line.number (reached c.loop-line.reader) =
    sym c.loop-line.invariant.judged ∙ judge_end (file_judge (up_to c.args.newest)) c.loop-line.number
    (reached c.loop-line.reader) (lines_of c.loop-line.rest.now) c.in_default.ensures.lines in
    rw e (c.finish.ensures c.args.newest)
