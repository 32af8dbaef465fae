use Rattle.std.proofs.Common.{◌≡◌, ◌∙◌, ◌++◌, ap, subst, sym, List}
use Rattle.point_order.specs.declared.cell.Cell.{Cell}
use Rattle.cell_slots.specs.Nets.{AreMoved, cells_of_slots}
use Rattle.cloud_cells.specs.declared.groups.Group.{Group}
use Rattle.cell_slots.proofs.Cited.{flat_more, flat_same, moved_none, live_append}
use Rattle.cloud_cells.proofs.groups.deal_page.Goals as goal

pub returns-clause-cells : goal.returns-clause-cells
returns-clause-cells c =
    let o = c.index_mut.result.now in
    let page = c.args.page in
    let e : cells_of_slots c.take_in.new.self.net ≡ cells_of_slots o.net ++ cells_of_slots page =
    ap cells_of_slots c.in_ok-take_in.ensures.cells ∙ live_append o.net page in
    flat_more (λ (x : Group). cells_of_slots x.net) c.args.groups.now.items c.args.g o c.take_in.new.self
    (cells_of_slots page) c.requires.group c.index_mut.ensures.value
    (subst (λ (v : List Cell). AreMoved (cells_of_slots o.net ++ cells_of_slots page) v) (sym e)
    (moved_none (cells_of_slots o.net ++ cells_of_slots page)))

pub returns-clause-points : goal.returns-clause-points
returns-clause-points c =
    flat_same (λ (x : Group). x.waiting.items) c.args.groups.now.items c.args.g c.index_mut.result.now
    c.take_in.new.self c.requires.group c.index_mut.ensures.value c.in_ok-take_in.ensures.points
