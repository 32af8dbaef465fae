use Rattle.std.proofs.Common.{◌∷◌, arith, refl, sym, ◌∙◌}
use Rattle.mesh_reader.specs.Judging.{mesh_judge, reached}
use Rattle.mesh_reader.proofs.Given.{step_ascends}
use Rattle.mesh_reader.proofs.Pieced.{bad_one, fewer_left, wrong_line}
use Rattle.text_readings.proofs.Cited.{judge_on}
use Rattle.mesh_reader.proofs.counted.Counted.take_line.Goals as goal

pub invariant_of-result : goal.invariant_of-result
invariant_of-result c =
    let fewer = fewer_left (reached c.args.self.reader) c.args.line.now (reached c.take_line.new.self) c.in-Ok.ensures
    in
    record {
      few = omega (arith, fewer, c.args.self.few);
      ascending = step_ascends (reached c.args.self.reader) c.args.line.now (reached c.take_line.new.self)
          c.in-Ok.ensures c.args.self.ascending;
    }

pub returns-in-Ok-clause-right : goal.returns-in-Ok-clause-right
returns-in-Ok-clause-right c = λ lines. sym (judge_on mesh_judge c.args.self.number (reached c.args.self.reader)
    (reached c.take_line.new.self) (c.args.line.now ∷ lines) c.args.line.now lines refl c.in-Ok.ensures)

pub returns-in-Err-clause-wrong : goal.returns-in-Err-clause-wrong
returns-in-Err-clause-wrong c = λ fault e. wrong_line c.in-Err.refused c.args.self.number (reached c.args.self.reader)
    c.args.line.now fault c.in-Err.ensures (sym c.of_line.ensures ∙ bad_one c.of_line.result fault e)
