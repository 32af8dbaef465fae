use Rattle.std.proofs.Common.{◌∙◌, ap, [], ◌∷◌}
use Rattle.point_order.specs.Solid.{is_solid}
use Rattle.opening_entries.proofs.Cited.{points_of_lines}
use Rattle.linked_mesh.proofs.Opened.{lines_at, lines_solid, opened_leaves}
use Rattle.linked_mesh.proofs.opening.begin.Goals as goal

pub of_history-requires-clause-left : goal.of_history-requires-clause-left
of_history-requires-clause-left c =
    opened_leaves c.args.four c.index-four-0.result c.index-four-1.result c.index-four-2.result c.index-four-3.result
    c.in_ok-from_slice.field-0.items c.deref.result.now c.requires (c.deref.ensures.value ∙ c.in_ok-points.ensures.set)
    (c.in_ok-from_slice.ensures.items
    ∙ (λ i. c.entry_of.ensures i ∷ c.entry_of-2.ensures i ∷ c.entry_of-3.ensures i ∷ c.entry_of-4.ensures i ∷ []))

pub of_history-requires-clause-solid : goal.of_history-requires-clause-solid
of_history-requires-clause-solid c =
    let lines = lines_at c.args.four c.index-four-0.result c.index-four-1.result c.index-four-2.result
    c.index-four-3.result in
    ap is_solid (c.deref.ensures.value ∙ c.in_ok-points.ensures.set)
    ∙ c.solidity_is_of_the_set.ensures (points_of_lines lines)
    ∙ lines_solid c.args.four c.index-four-0.result c.index-four-1.result c.index-four-2.result
    c.index-four-3.result c.requires
