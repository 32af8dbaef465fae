use Rattle.gift_wrap.proofs.Apexes.{apart_two}
use Rattle.gift_wrap.proofs.apex.leader.Goals as goal

pub has_outside-requires-clause-distinct : goal.has_outside-requires-clause-distinct
has_outside-requires-clause-distinct c =
    let k = rw c.in-Some.is at c.requires.best in
    apart_two c.args.a c.args.b c.args.c c.in-Some.ball.last c.args.next k.0.above c.requires.above k.1
