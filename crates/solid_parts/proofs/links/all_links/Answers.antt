use Rattle.std.proofs.Common.{◌∙◌, ◌≡◌, ◌<◌, arith, ap, subst, List, ℕ, length}
use Rattle.std.proofs.lemmas.List.{length-map}
use Rattle.point_order.specs.declared.cell.Cell.{Cell}
use Rattle.solid_parts.specs.Links.{AreLinked}
use Rattle.solid_parts.proofs.Linking.{no_triples, triple_more}
use Rattle.solid_parts.proofs.links.all_links.Goals as goal

pub loop-index-init : goal.loop-index-init
loop-index-init c = no_triples c.args.faces.now c.args.leasts.now _ c.new-links.ensures.items

pub loop-index-preserved : goal.loop-index-preserved
loop-index-preserved c =
    let faces = c.args.faces.now in
    let k = c.loop-index.index in
    let within = subst (λ n. k < n) (ap length c.triples-index-end.ensures ∙ length-map faces.triples
    (λ (f : List ℕ × List Cell). f.0)) c.loop-index-test.true in
    triple_more faces c.args.leasts.now k c.around.result.now c.loop-index.links.items _ c.around.ensures.cells
    c.around.ensures.below c.loop-index.invariant
    c.in_ok-put_links_around.ensures.keeps c.in_ok-put_links_around.ensures.has c.in_ok-put_links_around.ensures.below

pub returns-clause-linked : goal.returns-clause-linked
returns-clause-linked c =
    let faces = c.args.faces.now in
    let k = c.loop-index.index in
    let count = ap length c.triples-index-end.ensures ∙ length-map faces.triples (λ (f : List ℕ × List Cell). f.0) in
    let all : k ≡ length faces.triples = omega (arith, count, c.loop-index-test.false, c.loop-index.auto.index-end) in
    subst (λ n. AreLinked faces c.args.leasts.now n c.loop-index.links.items) all c.loop-index.invariant.linked
