use Rattle.std.proofs.Common.{◌≡◌, ◌∙◌, ◌++◌, [], ap, append_assoc, subst, List, Option}
use Rattle.point_order.specs.declared.cell.Cell.{Cell}
use Rattle.cell_slots.specs.Nets.{AreMoved, cells_of_slots}
use Rattle.cell_slots.specs.Pages.{slots_of}
use Rattle.cell_slots.proofs.Moving.{moved_last, moved_on}
use Rattle.cell_slots.proofs.Nets.{live_append}
use Rattle.cell_slots.proofs.WholePages.{page_behind}
use Rattle.cell_slots.proofs.slots.move_pages.Goals as goal

pub loop-page-preserved : goal.loop-page-preserved
loop-page-preserved c =
    let all = cells_of_slots (slots_of c.args.pages.items) ++ cells_of_slots c.args.packed.now.items in
    let rest = slots_of c.pop.new.self.items in
    let page = c.in-Some.page in
    let packed = cells_of_slots c.loop-page.packed.items in
    let new = cells_of_slots c.move_all.new.packed.items in
    let e : cells_of_slots (slots_of c.loop-page.pages.items) ++ packed
    ≡ cells_of_slots rest ++ (cells_of_slots page ++ packed) =
    ap (λ v. cells_of_slots (slots_of v) ++ packed) c.in-Some.ensures.items
    ∙ ap (λ (v : List (Option Cell)). cells_of_slots v ++ packed) (page_behind [] c.pop.new.self.items page)
    ∙ ap (λ (v : List Cell). v ++ packed) (live_append rest page)
    ∙ append_assoc (cells_of_slots rest) (cells_of_slots page) packed in
    let m = subst (λ (v : List (Option Cell)). AreMoved (cells_of_slots v ++ packed) new) c.into_slots.ensures
    c.in_ok-move_all.ensures in
    moved_on all (cells_of_slots rest ++ (cells_of_slots page ++ packed)) (cells_of_slots rest ++ new)
    (subst (λ (v : List Cell). AreMoved all v) e c.loop-page.invariant)
    (moved_last (cells_of_slots rest) (cells_of_slots page ++ packed) new m)
