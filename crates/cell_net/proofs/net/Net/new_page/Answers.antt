use Rattle.std.proofs.Common.{◌∙◌, ◌++◌, ap, append-nil, List}
use Rattle.point_order.specs.declared.cell.Cell.{Cell}
use Rattle.cell_slots.specs.Nets.{cells_of_slots}
use Rattle.cell_slots.proofs.Cited.{live_append}
use Rattle.cell_net.proofs.net.Net.new_page.Goals as goal

pub returns : goal.returns
returns c =
    let old = c.args.self.now in
    ap cells_of_slots (c.self-2.view_is ∙ c.in_ok-add.ensures) ∙ live_append old c.in_ok-page.page
    ∙ ap (λ (v : List Cell). cells_of_slots old ++ v) c.in_ok-page.ensures.cells ∙ append-nil (cells_of_slots old)
