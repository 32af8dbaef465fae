use Rattle.cavity.proofs.Advancing.{begins}
use Rattle.cavity.proofs.dig.Dig.start.Goals as goal

pub returns-clause-digs : goal.returns-clause-digs
returns-clause-digs c s k = rw (c.in_ok-new.ensures, c.new.ensures, c.in_ok-with_capacity.ensures.items)
    (begins s c.args.p c.args.cell c.key.ensures.bound k)
