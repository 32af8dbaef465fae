use Rattle.std.proofs.Common.{◌∙◌, ap, List, ℕ, []}
use Rattle.std.proofs.lemmas.List.{get_or_default}
use Rattle.point_order.specs.declared.cell.Cell.{Cell}
use Rattle.solid_parts.proofs.labels.around.Goals as goal

pub returns-clause-cells : goal.returns-clause-cells
returns-clause-cells c =
    ap (λ (f : List ℕ × List Cell). f.1) c.triple.ensures.face
    ∙ ap (λ (f : List ℕ × List Cell). f.1) (get_or_default c.args.faces.now.triples c.args.index _ ([], []) c.requires)
