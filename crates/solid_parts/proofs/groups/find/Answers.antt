use Rattle.solid_parts.proofs.Leading.{next_step}
use Rattle.solid_parts.proofs.groups.find.Goals as goal

pub loop-next-preserved : goal.loop-next-preserved
loop-next-preserved c =
    next_step c.args.leads.now c.loop-next.leads _ c.args.number c.loop-next.at c.loop-next.next _ c.loop-next.invariant
    c.shorten-next-in-loop-next.ensures.result c.shorten-next-in-loop-next.ensures.leads
