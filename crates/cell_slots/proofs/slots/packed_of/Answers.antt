use Rattle.std.proofs.Common.{◌∙◌, ◌++◌, ap, append-nil, subst, sym, List, Option}
use Rattle.point_order.specs.declared.cell.Cell.{Cell}
use Rattle.cell_slots.specs.Nets.{AreMoved, cells_of_slots}
use Rattle.cell_slots.specs.Pages.{slots_of}
use Rattle.cell_slots.proofs.Moving.{moved_last, moved_on}
use Rattle.cell_slots.proofs.Nets.{live_append}
use Rattle.cell_slots.proofs.slots.packed_of.Goals as goal

pub returns : goal.returns
returns c =
    let list = c.into_parts-list.result.0.items in
    let pages = slots_of c.into_parts-list.result.1.items in
    let mid = cells_of_slots c.move_pages.new.packed.items in
    let new = cells_of_slots c.move_all.new.packed.items in
    let first : AreMoved (cells_of_slots pages) mid =
    subst (λ (v : List Cell). AreMoved v mid)
    (ap (λ (v : List (Option Cell)). cells_of_slots pages ++ cells_of_slots v) c.in_ok-packed.ensures.items
    ∙ append-nil (cells_of_slots pages)) c.in_ok-move_pages.ensures in
    subst (λ (v : List Cell). AreMoved v new) (sym (ap cells_of_slots c.into_parts-list.ensures
    ∙ live_append list pages))
    (moved_on (cells_of_slots list ++ cells_of_slots pages) (cells_of_slots list ++ mid) new
    (moved_last (cells_of_slots list) (cells_of_slots pages) mid first) c.in_ok-move_all.ensures)
