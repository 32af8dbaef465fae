use Rattle.std.proofs.Common.{◌∙◌, ap, false, get_or}
use Rattle.point_order.specs.declared.cell.Cell.{Cell}
use Rattle.alpha_complex.specs.Slots.{marked_cell}
use Rattle.alpha_complex.proofs.SlotLaws.{cell_slot_at}
use Rattle.alpha_complex.proofs.shape.cell_at.Goals as goal

pub returns : goal.returns
returns c =
    let cells = c.args.cells.now in
    let marks = c.args.marks.now in
    let i = c.args.index in
    let cell = c.index-cells-index.result in
    c.marked.ensures ∙ ap (λ (v : Cell). marked_cell v (get_or marks i false)) c.index-cells-index.is
    ∙ cell_slot_at cells marks i cell false c.requires.cells c.requires.marks
