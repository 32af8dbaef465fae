use Rattle.std.proofs.Common.{◌∙◌, ap, sym, subst, Bool, List, ℕ, map, length}
use Rattle.std.specs.List.Sorted.{IsStrictlySortedBy}
use Rattle.point_order.specs.declared.cell.Cell.{Cell}
use Rattle.point_order.specs.CellOrder.{cell_cmp}
use Rattle.del_laws.proofs.Cited.{complex_is_sorted}
use Rattle.alpha_complex.specs.Judged.{is_small_cell}
use Rattle.solid_parts.specs.Gathered.{IsGathered}
use Rattle.solid_parts.specs.Labels.{AreLabels}
use Rattle.solid_parts.specs.Seen.{parts_seen}
use Rattle.solid_parts.proofs.Solid.{if_ok, parts_are}
use Rattle.solid_parts.proofs.parts.Goals as goal

pub gather-requires-clause-order : goal.gather-requires-clause-order
gather-requires-clause-order c =
    let h = c.requires.faces in
    subst (IsStrictlySortedBy cell_cmp) (sym (c.cells-2.ensures ∙ h.1.cells)) (complex_is_sorted h.0 h.1.ascending)

-- what is gathered is the parts of the alpha complex
pub returns : goal.returns
returns c =
    let faces = c.args.faces.now in
    let alpha = c.args.alpha in
    let marks = c.in_ok-marks.ensures ∙ ap (map (is_small_cell alpha)) c.cells.ensures in
    let labels = subst (λ (m : List Bool). AreLabels faces m (length faces.triples) c.in_ok-labels.labels.items)
    (c.deref.ensures.value ∙ marks) c.in_ok-labels.ensures in
    if_ok c.gather.result (λ parts d s h.
    parts_are s faces alpha c.in_ok-labels.labels.items (parts_seen parts.items) h labels
    (subst (λ (v : List Cell). IsGathered v (map (is_small_cell alpha) faces.cells) c.in_ok-labels.labels.items
    (length v) (parts_seen parts.items)) c.cells-2.ensures
    (subst (λ (v : List Bool). IsGathered c.cells-2.result.now v c.in_ok-labels.labels.items
    (length c.cells-2.result.now) (parts_seen parts.items)) (c.deref-2.ensures.value ∙ marks)
    (subst (λ (v : List ℕ). IsGathered c.cells-2.result.now c.deref-2.result.now v (length c.cells-2.result.now)
    (parts_seen parts.items)) c.deref-3.ensures.value d))))
    c.gather.ensures
