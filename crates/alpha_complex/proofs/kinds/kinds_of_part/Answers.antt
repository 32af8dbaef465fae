use Rattle.std.proofs.Common.{◌∙◌, List, [], ℕ, sym}
use Rattle.std.specs.Prelude.{None}
use Rattle.point_order.specs.declared.cell.Cell.{Cell}
use Rattle.alpha_complex.specs.Kinds.{part_kind, faces_of_part}
use Rattle.alpha_complex.proofs.Leasts.{written_is_map}
use Rattle.alpha_complex.proofs.kinds.kinds_of_part.Goals as goal

pub returns : goal.returns
returns c =
    let level = c.args.level.now in
    let part = c.args.part in
    written_is_map (λ (f : List ℕ × List Cell). part_kind part level.faces.now level.alpha f) ([], []) None
    (faces_of_part part level.faces.now) _ _ _ _
    c.deref_mut.ensures.value c.deref_mut.ensures.len (c.in_ok-kinds.ensures.len ∙ c.count_of.ensures)
    c.each_in_turn.auto.s (λ i l.
    let at = (c.each_in_turn.ensures i None l).1 in
    sym at.left ∙ at.call)
