use Rattle.std.proofs.Common.{subst}
use Rattle.mesh_check.specs.declared.gaps.Part.TheVariants.{Between, From}
use Rattle.mesh_check.specs.Flaws.{as_cells}
use Rattle.mesh_check.specs.Sides.{OpenIn}
use Rattle.mesh_check.proofs.Parts.{least_between, none_below, of_pairs, two_all}
use Rattle.mesh_check.proofs.gaps.open_facet.Goals as goal

pub loop-part-init : goal.loop-part-init
loop-part-init c = none_below (as_cells c.args.cells.now c.args.hull.now)

pub returns-in-Some : goal.returns-in-Some
returns-in-Some c =
    let l = as_cells c.args.cells.now c.args.hull.now in
    let low = c.loop-part.low in
    let high = c.key_at-high.result in
    least_between l low high c.in-Some.facet c.loop-part.invariant
    (subst (OpenIn (Between low high) l) c.in-Some.is c.in_ok-facet.ensures)

pub returns : goal.returns
returns c =
    let l = as_cells c.args.cells.now c.args.hull.now in
    of_pairs l c.open_in-3.result (two_all l c.loop-part.low c.loop-part.invariant
    (subst (OpenIn (From c.loop-part.low) l) c.in_default-2.is c.in_ok-facet-2.ensures)) c.open_in-3.ensures
