use Rattle.std.proofs.Common.{refl}
use Rattle.cell_slots.proofs.WholePages.{free_behind}
use Rattle.cell_slots.proofs.pages.Page.free.Goals as goal

pub loop-init : goal.loop-init
loop-init c = rw c.in_ok-slots.ensures.items (refl, refl)

pub loop-preserved : goal.loop-preserved
loop-preserved c =
    let i = c.loop.invariant in
    rw c.in_ok-push.ensures.items
    (free_behind c.loop.slots.items c.free.result c.loop.counter c.free.ensures i.0 i.1)
