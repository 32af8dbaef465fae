use Rattle.std.proofs.Common.{◌∙◌, ◌<◌, List, [], ℕ, ap, length, subst}
use Rattle.std.specs.List.{list_any}
use Rattle.std.proofs.lemmas.List.{length-map}
use Rattle.point_order.specs.declared.cell.Cell.{Cell}
use Rattle.alpha_complex.specs.Judged.{is_small_cell}
use Rattle.alpha_complex.proofs.Cited.{all_step}
use Rattle.solid_parts.proofs.least.cover_least.Goals as goal

pub loop-index-preserved : goal.loop-index-preserved
loop-index-preserved c =
    let points = c.args.known.now.faces.now.points in
    let many = ap length c.points-index-end.ensures ∙ length-map points (λ (f : ℕ × List Cell). f.0) in
    all_step (λ a cells. list_any (is_small_cell a) cells) (λ (f : ℕ × List Cell). f.1) points c.loop-index.index
    (0, []) c.loop-index.least c.point.result.regular _
    (subst (λ n. c.loop-index.index < n) many c.loop-index-test.true) c.point.ensures.numbers.regular
    c.greater-least.ensures c.loop-index.invariant
