use Rattle.std.proofs.Common.{◌∙◌, ap, List, Option, None}
use Rattle.point_order.specs.declared.cell.Cell.{Cell}
use Rattle.cell_stars.proofs.Least.{star_filters, behind}
use Rattle.cell_stars.proofs.cells.Cells.star_counted.Goals as goal

pub returns-clause-cells : goal.returns-clause-cells
returns-clause-cells g c =
    ap (λ (l : List (Option Cell)). behind l c.star.result.now None)
    (c.deref.ensures.value ∙ ap (λ v. v.slots) c.self.view_is)
    ∙ star_filters c.args.self.now c.args.p c.star.result.now c.star.ensures.stars c.star.ensures.places c.requires
