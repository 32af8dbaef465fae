use Rattle.std.proofs.Common.{◌∙◌, ap}
use Rattle.point_order.specs.Complex.{complex}
use Rattle.edit_history.proofs.Cited.{ok_then}
use Rattle.linked_mesh.proofs.set.LinkedSet.into_cells.Goals as goal

pub returns : goal.returns
returns c =
    let s = c.self.inside.points.keys in
    ok_then _ _ c.in_order.result
    (λ cells f. f s c.self.invariant.solid.set.ascending c.self.invariant ∙ ap complex c.self.view_is)
    c.in_order.ensures
