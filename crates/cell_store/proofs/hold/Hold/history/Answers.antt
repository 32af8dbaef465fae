use Rattle.cell_store.proofs.Gathering.{history_gathered}
use Rattle.cell_store.proofs.hold.Hold.history.Goals as goal

pub returns : goal.returns
returns c h st =
    history_gathered c.args.self.now h c.in_ok-entries.entries.items c.in_order.result.items
    c.in_ok-entries.ensures.whole st c.in_ok-entries.ensures.list c.in_order.ensures.same c.in_order.ensures.order
