use Rattle.std.proofs.Common.{arith}
use Rattle.face_list.proofs.Stretches.{stop_at}
use Rattle.face_list.proofs.table.stop_of.Goals as goal

pub returns-clause-order : goal.returns-clause-order
returns-clause-order c = omega (
  arith,
  (stop_at 0 c.args.count c.args.ends.now c.args.i 0 c.requires.stops
      c.requires.index).0,
  c.requires.start,
)

pub returns-clause-within : goal.returns-clause-within
returns-clause-within c = omega (
  arith,
  (stop_at 0 c.args.count c.args.ends.now c.args.i 0 c.requires.stops
      c.requires.index).1,
)
