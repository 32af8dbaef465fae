use Rattle.cavity.proofs.Composing.{one_change}
use Rattle.cavity.proofs.compose.composed.Goals as goal

pub returns-clause-change : goal.returns-clause-change
returns-clause-change c s t u a b =
    one_change s t u c.args.first.now.gone.items c.args.first.now.fresh.items c.args.second.now.gone.items
    c.args.second.now.fresh.items c.in_ok-of_both.field-0.items c.in_ok-of_both-2.field-0.items
    (rw (c.deref.ensures.value, c.deref-2.ensures.value, c.deref-3.ensures.value, c.deref-4.ensures.value) at
    c.in_ok-of_both.ensures)
    (rw (c.deref-5.ensures.value, c.deref-6.ensures.value, c.deref-7.ensures.value, c.deref-8.ensures.value) at
    c.in_ok-of_both-2.ensures) a b
