use Rattle.std.proofs.Common.{◌∙◌, ap, ℕ, get_or}
use Rattle.std.proofs.lemmas.List.{get_or_default}
use Rattle.alpha_complex.specs.declared.shape.Kind.{Kind}
use Rattle.alpha_complex.specs.declared.shape.Kind.TheVariants.{Singular}
use Rattle.alpha_complex.proofs.SlotLaws.{zip_item}
use Rattle.alpha_complex.proofs.shape.point_at.Goals as goal

pub returns : goal.returns
returns c =
    let points = c.args.points.now in
    let kinds = c.args.kinds.now in
    let i = c.args.index in
    let p = c.index-points-index.result in
    let k : Kind = get_or kinds i Singular in
    ap (λ (v : ℕ). (v, k)) c.index-points-index.is
    ∙ ap (λ (v : Kind). (get_or points i p, v)) (get_or_default kinds i Singular k c.requires.kinds)
    ∙ zip_item points kinds i p k c.requires.points c.requires.kinds
