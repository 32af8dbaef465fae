use Rattle.std.proofs.Common.{[], ◌∷◌, ap, subst, ◌∙◌}
use Rattle.point_order.specs.Conflicts.{CanJudge}
use Rattle.point_order.specs.declared.cell.Cell.{Cell}
use Rattle.point_order.specs.declared.cell.Cell.TheVariants.{Open}
use Rattle.sphere_ties.proofs.Judged.{five_judged}
use Rattle.sphere_ties.proofs.conflict.Goals as goal

pub outside-requires-then-side-eq0-clause-distinct :
    goal.outside-requires-then-side-eq0-clause-distinct
outside-requires-then-side-eq0-clause-distinct c =
    let at = c.corners-a-in-Open in
    let h : CanJudge (Open (at.result.0 ∷ at.result.1 ∷ at.result.2 ∷ [])) c.args.mate c.args.p =
    subst (λ (v : Cell). CanJudge v c.args.mate c.args.p) (c.in-Open.is ∙ ap Open at.ensures.points) c.requires in
    five_judged at.result.0 at.result.1 at.result.2 c.args.mate c.args.p at.ensures.first at.ensures.second h.0 h.1
