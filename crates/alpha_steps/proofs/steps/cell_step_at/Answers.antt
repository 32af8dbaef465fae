use Rattle.std.proofs.Common.{◌∙◌, ap, get_or}
use Rattle.point_order.specs.declared.cell.Cell.{Cell}
use Rattle.alpha_steps.specs.Seen.{step_of_cell}
use Rattle.alpha_steps.proofs.Told.{cell_step_is}
use Rattle.alpha_steps.proofs.steps.cell_step_at.Goals as goal

pub returns : goal.returns
returns c =
    let cells = c.args.cells.now in
    let leasts = c.args.leasts.now in
    let i = c.args.index in
    c.cell_step.ensures
    ∙ ap (λ (v : Cell). step_of_cell v (get_or leasts i 0)) c.index-cells-index.is
    ∙ cell_step_is cells leasts i c.index-cells-index.result 0 c.requires.cells c.requires.leasts
