use Rattle.std.proofs.Common.{◌∙◌, ap, List, length}
use Rattle.point_order.specs.declared.cell.Cell.{Cell}
use Rattle.face_list.specs.Faces.{full_cells}
use Rattle.alpha_steps.proofs.Told.{cells_held}
use Rattle.alpha_steps.proofs.steps.Thresholds.cell_count.Goals as goal

pub returns : goal.returns
returns c =
    c.full_count.ensures ∙ ap (λ (v : List Cell). length (full_cells v)) c.cells.ensures
    ∙ cells_held c.self.inside c.args.self.now c.self.invariant c.self.view_is
