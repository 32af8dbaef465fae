use Rattle.std.proofs.Common.{ap, ◌∙◌, List, ◌∷◌, refl}
use Rattle.mesh_check.specs.declared.gaps.Side.{Side}
use Rattle.mesh_check.specs.Sides.{apart, third}
use Rattle.mesh_check.proofs.gaps.behind_pair.Goals as goal

pub returns-then-not-is_same : goal.returns-then-not-is_same
returns-then-not-is_same c =
    apart c.in_ok-second.second.now c.in_ok-second.after.now c.in_ok-second.ensures.cases.0
    (λ e. let same = c.if-not-is_same.ensures.1 e in absurd (cc))

pub returns-then-is_same : goal.returns-then-is_same
returns-then-is_same c =
    third c.in_ok-second.second.now c.in-Some.third.now c.in-Some.field-0-1.now
    (c.in_ok-second.ensures.cases.0 ∙ ap (λ (v : List Side). c.in_ok-second.second.now ∷ v) c.in-Some.ensures.cases.0)
    (c.if-not-is_same.ensures.0 refl) (c.if-is_same.ensures.0 refl)
