use Rattle.std.proofs.Common.{◌∙◌, List, [], ℕ, ap, length, sym}
use Rattle.std.proofs.lemmas.List.{length-map}
use Rattle.point_order.specs.declared.cell.Cell.{Cell}
use Rattle.alpha_complex.specs.declared.shape.Kind.TheVariants.{Singular}
use Rattle.alpha_complex.specs.Kinds.{kind_of}
use Rattle.alpha_complex.proofs.Leasts.{written_is_map}
use Rattle.alpha_complex.proofs.kinds.kinds_of_points.Goals as goal

pub returns : goal.returns
returns c =
    let points = c.args.level.now.faces.now.points in
    let many = ap length c.points.ensures ∙ length-map points (λ (f : ℕ × List Cell). f.0) in
    written_is_map (λ (f : ℕ × List Cell). kind_of c.args.level.now.alpha f) (0, []) Singular points _ _ _ _
    c.deref_mut.ensures.value c.deref_mut.ensures.len (c.in_ok-kinds.ensures.len ∙ many) c.each_in_turn.auto.s (λ i l.
    let at = (c.each_in_turn.ensures i Singular l).1 in
    sym at.left ∙ at.call)
