use Rattle.std.proofs.Common.{◌∙◌, ◌≡◌, arith, ap, sym, subst, List, ℕ, length, ◌<◌, ◌+◌}
use Rattle.point_order.specs.declared.cell.Cell.{Cell}
use Rattle.std.specs.List.{range_with_len}
use Rattle.std.proofs.lemmas.List.{length-map}
use Rattle.solid_parts.specs.Labels.{AreLabels}
use Rattle.solid_parts.proofs.Paths.{LeadToLabels, leads_end, leads_next, leads_start, written_back}
use Rattle.solid_parts.proofs.labels.labels_of.Goals as goal

pub loop-index-init : goal.loop-index-init
loop-index-init c =
    leads_start c.args.faces.now c.args.marks.now _ (c.in_ok-leads.ensures ∙ ap
    (λ (v : List Cell). range_with_len 0 (length v)) c.cells.ensures)

-- the cells of one triple more are joined
pub loop-index-preserved : goal.loop-index-preserved
loop-index-preserved c =
    let faces = c.args.faces.now in
    let marks = c.args.marks.now in
    let old = c.loop-index.leads.items in
    let k = c.loop-index.index in
    let within = subst (λ n. k < n) (ap length c.triples-index-end.ensures ∙ length-map faces.triples
    (λ (f : List ℕ × List Cell). f.0)) c.loop-index-test.true in
    let lent = c.deref_mut.ensures.value in
    subst (LeadToLabels faces marks (k + 1)) (sym (written_back c.loop-index.leads.len old c.deref_mut.result.now
    c.join_all.new.leads lent c.deref_mut.ensures.len c.join_all.auto.leads))
    (leads_next faces marks k c.around.result.now c.deref_mut.result.now c.join_all.new.leads within
    c.around.ensures.cells c.around.ensures.below
    (subst (LeadToLabels faces marks k) (sym lent) c.loop-index.invariant) c.join_all.ensures.down
    c.join_all.ensures.joined)

pub returns : goal.returns
returns c =
    let faces = c.args.faces.now in
    let marks = c.args.marks.now in
    let k = c.loop-index.index in
    let lent = c.deref_mut-2.ensures.value in
    let count = ap length c.triples-index-end.ensures ∙ length-map faces.triples (λ (f : List ℕ × List Cell). f.0) in
    let all : length faces.triples ≡ k = omega (arith, count, c.loop-index-test.false, c.loop-index.auto.index-end) in
    subst (AreLabels faces marks (length faces.triples)) (sym (written_back c.loop-index.leads.len
    c.loop-index.leads.items c.deref_mut-2.result.now c.flatten.new.leads lent c.deref_mut-2.ensures.len
    c.flatten.auto.leads))
    (leads_end faces marks k c.deref_mut-2.result.now c.flatten.new.leads all
    (subst (LeadToLabels faces marks k) (sym lent) c.loop-index.invariant) c.flatten.ensures)
