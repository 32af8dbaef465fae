use Rattle.std.proofs.Common.{◌∙◌, ap, List, Option, None}
use Rattle.point_order.specs.declared.cell.Cell.{Cell}
use Rattle.cell_stars.proofs.Least.{star_filters, behind}
use Rattle.cell_stars.proofs.cells.Cells.cells_at.Goals as goal

pub returns : goal.returns
returns c =
    ap (λ (l : List (Option Cell)). behind l c.star_of.result.now None)
    (c.deref.ensures.value ∙ ap (λ v. v.slots) c.self.view_is)
    ∙ star_filters c.args.self.now c.args.p c.star_of.result.now c.star_of.ensures.stars c.star_of.ensures.places
    c.requires
