use Rattle.std.proofs.Common.{ap, sym}
use Rattle.text_readings.specs.Judging.{refused_at}
use Rattle.text_readings.proofs.fault.LineRefused.of_line.Goals as goal

pub returns-in-Bad : goal.returns-in-Bad
returns-in-Bad c = ap (refused_at c.args.line) (sym c.in-Bad.is)

pub returns-in-Memory : goal.returns-in-Memory
returns-in-Memory c = ap (refused_at c.args.line) (sym c.in-Memory.is)
