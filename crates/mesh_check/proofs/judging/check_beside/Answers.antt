use Rattle.std.proofs.Common.{◌∙◌, refl, sym, subst}
use Rattle.std.specs.Prelude.{Option}
use Rattle.point_order.specs.declared.cell.Facet.{Facet}
use Rattle.mesh_check.specs.declared.flaw.Flaw.TheVariants.{Empty, OpenFacet}
use Rattle.point_order.specs.declared.cell.Cell.TheVariants.{Full, Open}
use Rattle.cloud_cells.specs.declared.known.Compared.{Compared}
use Rattle.mesh_check.specs.Flaws.{as_cells}
use Rattle.mesh_check.specs.Laws.{StandsBeside}
use Rattle.mesh_check.specs.Sides.{OpenIs}
use Rattle.mesh_check.proofs.Verdicts.{bad_says, by_cell, good_is_complex, known_sound}
use Rattle.mesh_check.proofs.judging.check_beside.Goals as goal

pub returns-then-are_empty-clause-bad : goal.returns-then-are_empty-clause-bad
returns-then-are_empty-clause-bad c flaw e =
    bad_says c.args.points.now (as_cells c.args.cells.now c.args.hull.now) Empty
    flaw c.requires.points c.requires.keys c.if-are_empty.ensures e

pub returns-in-Same-clause-good : goal.returns-in-Same-clause-good
returns-in-Same-clause-good c e =
    subst (λ (r : Compared). StandsBeside c.args.points.now c.args.cells.now c.args.hull.now r) c.in-Same.is
    c.in_ok-beside_complex.ensures

pub returns-in-Same-clause-verdict : goal.returns-in-Same-clause-verdict
returns-in-Same-clause-verdict c =
    (good_is_complex c.args.points.now (as_cells c.args.cells.now c.args.hull.now) c.requires.points c.requires.keys
    c.requires.cells).1
    (returns-in-Same-clause-good c refl)

pub first_flaw-requires : goal.first_flaw-requires
first_flaw-requires c =
    let of = subst (λ (r : Compared). StandsBeside c.args.points.now c.args.cells.now c.args.hull.now r) c.in-Other.is
    c.in_ok-beside_complex.ensures in
    record {
      cells = known_sound c.args.points.now Full c.args.cells.now _ c.requires.points c.requires.keys of.0;
      hull = known_sound c.args.points.now Open c.args.hull.now _ c.requires.points c.requires.keys of.1;
    }

pub returns-in-Some-clause-verdict : goal.returns-in-Some-clause-verdict
returns-in-Some-clause-verdict c = by_cell c.args.points.now (as_cells c.args.cells.now c.args.hull.now) c.in-Some.flaw
    (sym c.first_flaw.ensures ∙ c.in-Some.is)

pub returns-in-Some-clause-bad : goal.returns-in-Some-clause-bad
returns-in-Some-clause-bad c flaw e =
    bad_says c.args.points.now (as_cells c.args.cells.now c.args.hull.now) c.in-Some.flaw flaw c.requires.points
    c.requires.keys
    (by_cell c.args.points.now (as_cells c.args.cells.now c.args.hull.now) c.in-Some.flaw
    (sym c.first_flaw.ensures ∙ c.in-Some.is)) e

pub returns-in-Some-2-clause-bad : goal.returns-in-Some-2-clause-bad
returns-in-Some-2-clause-bad c flaw e =
    let l = as_cells c.args.cells.now c.args.hull.now in
    bad_says c.args.points.now l (OpenFacet c.in-Some-2.facet) flaw c.requires.points c.requires.keys (
      sym c.first_flaw.ensures ∙ c.in_default.is,
      subst (λ (o : Option Facet). OpenIs l o) c.in-Some-2.is c.in_ok-facet.ensures,
    ) e

pub returns-in-None-clause-verdict : goal.returns-in-None-clause-verdict
returns-in-None-clause-verdict c =
    let l = as_cells c.args.cells.now c.args.hull.now in (
      c.if-are_empty.ensures,
      sym c.first_flaw.ensures ∙ c.in_default.is,
      subst (λ (o : Option Facet). OpenIs l o) c.in-None.is c.in_ok-facet.ensures,
    )

pub returns-in-None-clause-good : goal.returns-in-None-clause-good
returns-in-None-clause-good c e =
    let l = as_cells c.args.cells.now c.args.hull.now in
    (good_is_complex c.args.points.now l c.requires.points c.requires.keys c.requires.cells).0 (
      c.if-are_empty.ensures,
      sym c.first_flaw.ensures ∙ c.in_default.is,
      subst (λ (o : Option Facet). OpenIs l o) c.in-None.is c.in_ok-facet.ensures,
    )
