use Rattle.std.proofs.Common.{◌≡◌, ◌∙◌, ap, length, List, ℕ, [], ◌<◌, ◌≤◌, ◌+◌, subst, sym, take}
use Rattle.std.specs.Prelude.{Vec, filter_map}
use Rattle.std.specs.declared.alloc.Global.{Global}
use Rattle.std.proofs.lemmas.List.{length-map}
use Rattle.point_order.specs.declared.cell.Cell.{Cell}
use Rattle.solid_parts.specs.Boundary.{outer_of}
use Rattle.solid_parts.proofs.Outer.{outer_all, outer_none, outer_some}
use Rattle.solid_parts.proofs.turning.outside_of.Goals.{in-Some+in_ok-push-in-Some, in-None}
use Rattle.solid_parts.proofs.turning.outside_of.Goals as goal

pub outer-requires : goal.outer-requires
outer-requires c = subst (λ n. c.loop-index.index < n) (ap length c.triples-index-end.ensures ∙ length-map
    c.args.faces.now.triples (λ (f : List ℕ × List Cell). f.0)) c.loop-index-test.true

-- one triple more: it is turned and put last, or it is not on the boundary
pub loop-index-preserved : goal.loop-index-preserved
loop-index-preserved c =
    let triples = c.args.faces.now.triples in
    let i = c.loop-index.index in
    let count = ap length c.triples-index-end.ensures ∙ length-map triples (λ (f : List ℕ × List Cell). f.0) in
    let within = subst (λ n. i < n) count c.loop-index-test.true in
    let now = λ (v : Vec (List ℕ) Global). v.items ≡ filter_map outer_of (take (i + 1) triples) in
    elim c.match-outer.branch [
      | in-Some+in_ok-push-in-Some w ↦ subst now (sym w.outside-is) (w.in_ok-push-in-Some.ensures.items
          ∙ outer_some outer_of triples i ([], []) w.in-Some.triangle c.loop-index.outside.items within
          (sym c.outer.ensures ∙ w.in-Some.is) c.loop-index.invariant)
      | in-None w ↦ subst now (sym w.outside-is) (outer_none outer_of triples i ([], []) c.loop-index.outside.items
          within (sym c.outer.ensures ∙ w.in-None.is) c.loop-index.invariant)
    ]

pub returns : goal.returns
returns c =
    let triples = c.args.faces.now.triples in
    let count = ap length c.triples-index-end.ensures ∙ length-map triples (λ (f : List ℕ × List Cell). f.0) in
    outer_all outer_of triples c.loop-index.index c.loop-index.outside.items
    (subst (λ n. n ≤ c.loop-index.index) count c.loop-index-test.false) c.loop-index.invariant
