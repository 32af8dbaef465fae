use Rattle.std.proofs.Common.{◌<◌, ◌∙◌, ◌++◌, ◌∷◌, [], ap, arith, length, sym, List, Option}
use Rattle.point_order.specs.declared.cell.Cell.{Cell}
use Rattle.cell_slots.specs.Nets.{cells_of_slots, slot_at}
use Rattle.cell_slots.proofs.Cited.{cells_next}
use Rattle.cell_net.proofs.net.Net.cells.Goals as goal

pub loop-place-preserved : goal.loop-place-preserved
loop-place-preserved c =
    let slots = c.args.self.now in
    let i = c.loop-place.place in
    let t = c.loop-place-test.true in
    let e = c.len-place-end.ensures in
    let v = ap length c.self.view_is in
    let below : i < length slots = omega (arith, t, e, v) in
    c.in_ok-push_cell.ensures
    ∙ ap (λ (x : Option Cell). c.loop-place.cells.items ++ cells_of_slots (x ∷ [])) (c.cell_at.ensures
    ∙ ap (λ (s : List (Option Cell)). slot_at s i) c.self.view_is)
    ∙ ap (λ (l : List Cell). l ++ cells_of_slots (slot_at slots i ∷ [])) c.loop-place.invariant
    ∙ sym (cells_next slots i below)
