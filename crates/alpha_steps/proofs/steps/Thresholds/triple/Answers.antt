use Rattle.std.proofs.Common.{◌∙◌, ap, length, arith}
use Rattle.std.proofs.lemmas.List.{length-map}
use Rattle.alpha_steps.proofs.Told.{triples_as_seen}
use Rattle.alpha_steps.proofs.steps.Thresholds.triple.Goals as goal

pub step_at-requires-clause-faces : goal.step_at-requires-clause-faces
step_at-requires-clause-faces c =
    let n = triples_as_seen c.self.inside c.args.self.now c.self.invariant c.self.view_is in
    let m = c.self.invariant.triples in
    let k = ap length c.triples.ensures ∙ length-map c.self.inside.faces.now.triples (λ f. f.0) in
    omega (arith, c.requires, n, m, k)

pub step_at-requires-clause-leasts : goal.step_at-requires-clause-leasts
step_at-requires-clause-leasts c =
    let n = triples_as_seen c.self.inside c.args.self.now c.self.invariant c.self.view_is in
    let k = ap length c.deref.ensures.value in
    omega (arith, c.requires, n, k)
