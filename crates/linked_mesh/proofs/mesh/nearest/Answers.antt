use Rattle.std.proofs.Common.{◌∙◌, ap, subst, List, ℕ}
use Rattle.edit_history.specs.Histories.{replay}
use Rattle.nearest_points.specs.Points.{IsNearest}
use Rattle.linked_mesh.proofs.mesh.nearest.Goals as goal

pub returns : goal.returns
returns c =
    subst (λ (s : List ℕ). IsNearest s c.args.q c.nearest.result) (c.mesh.invariant ∙ ap replay c.mesh.view_is)
    c.nearest.ensures
