use Rattle.std.proofs.Common.{◌∙◌, ◌+◌, ◌<◌, [], arith, drop, length, sym}
use Rattle.point_order.specs.declared.cell.Cell.TheVariants.{Full}
use Rattle.mesh_check.specs.Flaws.{as_cells}
use Rattle.mesh_check.proofs.Lists.{cells_front, own, triples_left, with_flaw, without_flaw}
use Rattle.mesh_check.proofs.cells.first_flaw.Goals as goal

pub returns-in-Some : goal.returns-in-Some
returns-in-Some c =
    let s = c.args.points.now in
    let l = c.args.cells.now in
    let h = c.args.hull.now in
    let i = c.loop-place.place in
    let within : i < c.len-place-end.result → i < length l =
    (λ h. let n = c.len-place-end.ensures in omega (arith, n, h)) in
    sym (with_flaw s (as_cells (drop (i + 1) l) h) (Full c.at.result) c.in-Some.flaw
    (sym c.flaw_of_quad.ensures ∙ c.in-Some.is))
    ∙ sym (cells_front s l h i c.at.result (within c.loop-place-test.true)
    (own l i c.at.result [] (within c.loop-place-test.true) c.at.ensures)) ∙ c.loop-place.invariant

pub loop-place-preserved : goal.loop-place-preserved
loop-place-preserved c =
    let s = c.args.points.now in
    let l = c.args.cells.now in
    let h = c.args.hull.now in
    let i = c.loop-place.place in
    let within : i < c.len-place-end.result → i < length l =
    (λ h. let n = c.len-place-end.ensures in omega (arith, n, h)) in
    sym (without_flaw s (as_cells (drop (i + 1) l) h) (Full c.at.result) (sym c.flaw_of_quad.ensures ∙ c.in_default.is))
    ∙ sym (cells_front s l h i c.at.result (within c.loop-place-test.true)
    (own l i c.at.result [] (within c.loop-place-test.true) c.at.ensures)) ∙ c.loop-place.invariant

pub returns : goal.returns
returns c =
    c.flaw_of_triples.ensures
    ∙ sym (triples_left c.args.points.now c.args.cells.now c.args.hull.now c.loop-place.place
    (let n = c.len-place-end.ensures in let h = c.loop-place-test.false in omega (arith, n, h)))
    ∙ c.loop-place.invariant
