use Rattle.std.proofs.Common.{◌∙◌, ◌<◌, ◌∷◌, [], ap, arith, length, Option}
use Rattle.point_order.specs.declared.cell.Cell.{Cell}
use Rattle.cell_slots.specs.Nets.{cells_of_slots}
use Rattle.cell_slots.proofs.WholePages.{first_set}
use Rattle.cell_slots.proofs.pages.Page.of_slot.Goals as goal

pub returns-clause-cells : goal.returns-clause-cells
returns-clause-cells c =
    let page = c.in_ok-page.page in
    let size = c.in_ok-page.ensures.size in
    let some : 0 < length page = omega (arith, size) in
    ap cells_of_slots c.set.ensures ∙ first_set page c.packed.result c.in_ok-page.ensures.cells some
    ∙ ap (λ (x : Option Cell). cells_of_slots (x ∷ [])) c.packed.ensures
