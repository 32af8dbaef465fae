use Rattle.std.proofs.Common.{[], refl}
use Rattle.mesh_reader.specs.Judging.{mesh_judge, reached}
use Rattle.text_readings.proofs.Cited.{judge_end}
use Rattle.mesh_reader.proofs.counted.Counted.finish.Goals as goal

pub returns : goal.returns
returns c = rw (judge_end mesh_judge c.args.self.number (reached c.args.self.reader) [] refl) c.finish.ensures
