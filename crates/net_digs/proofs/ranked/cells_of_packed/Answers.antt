use Rattle.std.proofs.Common.{sym, ap, ◌∙◌, ◌∷◌, [], ◌++◌, List, take}
use Rattle.list_laws.proofs.Cited.{take_next}
use Rattle.point_order.specs.declared.cell.Cell.{Cell}
use Rattle.cell_slots.specs.Nets.{cells_of_slots}
use Rattle.cell_slots.proofs.Cited.{live_append}
use Rattle.net_digs.proofs.ranked.cells_of_packed.Goals as goal

pub loop-slot-preserved : goal.loop-slot-preserved
loop-slot-preserved c =
    let slots = c.args.packed.now in
    let i = c.loop-slot.slot-index in
    let x = c.slot-item.result in
    c.in_ok-push_packed.ensures ∙ ap (λ (l : List Cell). l ++ cells_of_slots (x ∷ [])) c.loop-slot.invariant ∙ sym
    (live_append (take i slots) (x ∷ []))
    ∙ ap cells_of_slots (sym (take_next slots i x c.loop-slot-test.true c.slot-item.is))
