use Rattle.std.proofs.Common.{◌≡◌, ◌∙◌, ◌++◌, ap, subst, sym, List}
use Rattle.std.proofs.lemmas.Option.{MatchOption-at_some}
use Rattle.point_order.specs.declared.cell.Cell.{Cell}
use Rattle.cell_slots.specs.Nets.{AreMoved, cells_of_slots}
use Rattle.cell_slots.proofs.Cited.{come_over, moved_last, moved_none, moved_on, live_append}
use Rattle.cloud_cells.proofs.groups.gather_cells.Goals as goal

pub add-requires : goal.add-requires
add-requires c = (MatchOption-at_some _ _ c.in-Some.page c.in-Some.is c.in_ok-page.ensures).0

pub loop-page-preserved : goal.loop-page-preserved
loop-page-preserved c =
    let all = cells_of_slots c.args.net.now ++ cells_of_slots c.args.part.now in
    let now = cells_of_slots c.loop-page.net in
    let part = cells_of_slots c.loop-page.part in
    let front = cells_of_slots c.remove.new.self in
    let page = c.in-Some.page in
    let last = cells_of_slots page in
    let e : cells_of_slots c.add.new.self ≡ now ++ last =
    ap cells_of_slots c.in_ok-add.ensures ∙ live_append c.loop-page.net page in
    come_over all now (cells_of_slots c.add.new.self) front last
    (moved_on all (now ++ part) (now ++ (front ++ last)) c.loop-page.invariant
    (moved_last now part (front ++ last) (MatchOption-at_some _ _ c.in-Some.page c.in-Some.is c.in_ok-page.ensures).2))
    (subst (λ (v : List Cell). AreMoved (now ++ last) v) (sym e) (moved_none (now ++ last)))
