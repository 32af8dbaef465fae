use Rattle.std.proofs.Common.{◌∙◌, ◌+◌, sym, drop}
use Rattle.std.specs.Prelude.{map}
use Rattle.point_order.specs.declared.cell.Cell.TheVariants.{Open}
use Rattle.mesh_check.proofs.Lists.{none_left, triples_front, with_flaw, without_flaw}
use Rattle.mesh_check.proofs.cells.flaw_of_triples.Goals as goal

pub returns-in-Some : goal.returns-in-Some
returns-in-Some c =
    let s = c.args.points.now in
    let l = c.args.hull.now in
    let i = c.loop-place.place in
    sym (with_flaw s (map Open (drop (i + 1) l)) (Open c.index-hull-place.result) c.in-Some.flaw
    (sym c.flaw_of_triple.ensures ∙ c.in-Some.is))
    ∙ sym (triples_front s l i c.index-hull-place.result c.loop-place-test.true c.index-hull-place.is)
    ∙ c.loop-place.invariant

pub loop-place-preserved : goal.loop-place-preserved
loop-place-preserved c =
    let s = c.args.points.now in
    let l = c.args.hull.now in
    let i = c.loop-place.place in
    sym (without_flaw s (map Open (drop (i + 1) l)) (Open c.index-hull-place.result)
    (sym c.flaw_of_triple.ensures ∙ c.in_default.is))
    ∙ sym (triples_front s l i c.index-hull-place.result c.loop-place-test.true c.index-hull-place.is)
    ∙ c.loop-place.invariant

pub returns : goal.returns
returns c = sym (none_left c.args.points.now c.args.hull.now c.loop-place.place c.loop-place-test.false)
    ∙ c.loop-place.invariant
