use Rattle.cell_stars.proofs.PartLaws.{bare_more, filed_bare}
use Rattle.cell_stars.proofs.parts.bare_parts.Goals as goal

pub loop-preserved : goal.loop-preserved
loop-preserved c =
    bare_more c.loop.counter c.loop.parts.items c.push.new.self.items c.bare_part.result c.in_ok-push.ensures.items
    c.bare_part.ensures c.loop.invariant

pub returns-clause-filed : goal.returns-clause-filed
returns-clause-filed c = (filed_bare c.loop.parts.items c.loop.invariant.1).0

pub returns-clause-none : goal.returns-clause-none
returns-clause-none c = (filed_bare c.loop.parts.items c.loop.invariant.1).1
