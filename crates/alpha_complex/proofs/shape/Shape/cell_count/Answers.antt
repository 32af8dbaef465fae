use Rattle.std.proofs.Common.{◌∙◌, ap, List, Bool}
use Rattle.std.specs.Prelude.{count_by, is_some}
use Rattle.point_order.specs.declared.cell.Cell.{Cell}
use Rattle.alpha_complex.specs.Slots.{cell_slots_of}
use Rattle.alpha_complex.proofs.SlotLaws.{cells_held}
use Rattle.alpha_complex.proofs.shape.Shape.cell_count.Goals as goal

pub returns : goal.returns
returns c =
    c.marked_count.ensures
    ∙ ap (λ (v : List Cell). count_by is_some (cell_slots_of v c.deref.result.now)) c.cells.ensures
    ∙ ap (λ (v : List Bool). count_by is_some (cell_slots_of c.self.inside.faces.now.cells v)) c.deref.ensures.value
    ∙ cells_held c.self.inside c.args.self.now c.self.view_is
