use Rattle.std.proofs.Common.{ap, ◌∙◌, ◌==◌}
use Rattle.cell_stars.proofs.KeyLaws.{has_any}
use Rattle.cell_stars.proofs.around.Around.has_places.Goals as goal

pub returns : goal.returns
returns c =
    has_any c.args.self.now c.self.inside.places.items c.is_empty.result (ap (λ v. v.1) c.self.view_is)
    (c.is_empty.ensures ∙ ap (λ n. n == 0) c.self.inside.places.ok.0)
