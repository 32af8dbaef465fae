use Rattle.std.proofs.Common.{◌≡◌, List, ℕ, ◌∙◌, ap, sym, subst, Some, None}
use Rattle.std.specs.Prelude.{not, [], ◌∷◌}
use Rattle.list_laws.proofs.Cited.{not_from}
use Rattle.point_order.specs.declared.cell.Cell.TheVariants.{Open}
use Rattle.point_order.specs.Orientation.{is_flat}
use Rattle.mesh_check.specs.declared.flaw.Flaw.TheVariants.{Sides, Inside}
use Rattle.mesh_check.specs.Flaws.{flaw_of, inside_with}
use Rattle.mesh_check.proofs.Flaws.{found}
use Rattle.mesh_check.proofs.Sides.{flaw_none, flaw_sides, flaw_inside}
use Rattle.mesh_check.proofs.cells.flaw_of_open.Goals as goal

pub returns-in-None : goal.returns-in-None
returns-in-None c =
    let r = c.corners-a.result in
    subst (λ (t : List ℕ). None ≡ flaw_of c.args.points.now (Open t)) (sym c.corners-a.ensures.points)
    (sym (flaw_none c.args.points.now r.0 r.1 r.2 (sym c.collinear.ensures ∙ c.if-collinear.false)
    (sym c.first_off.ensures ∙ c.in-None.is)))

pub returns-in-Some-first_opposite : goal.returns-in-Some-first_opposite
returns-in-Some-first_opposite c =
    let r = c.corners-a.result in
    subst (λ (t : List ℕ). Some (Sides t c.in-Some.e c.in-Some-first_opposite.f) ≡ flaw_of c.args.points.now (Open t))
    (sym c.corners-a.ensures.points)
    (sym (flaw_sides c.args.points.now r.0 r.1 r.2 c.in-Some.e c.in-Some-first_opposite.f
    (sym c.collinear.ensures ∙ c.if-collinear.false) (sym c.first_off.ensures ∙ c.in-Some.is)
    (sym c.first_opposite.ensures ∙ c.in-Some-first_opposite.is)))

pub first_in_plane-requires-clause-off : goal.first_in_plane-requires-clause-off
first_in_plane-requires-clause-off c =
    let r = c.corners-a.result in
    not_from (is_flat r.0 r.1 r.2 c.in-Some.e)
    (found (λ f. not (is_flat r.0 r.1 r.2 f)) c.args.points.now c.in-Some.e (sym c.first_off.ensures ∙ c.in-Some.is)).1

pub returns-in-Some-first_in_plane : goal.returns-in-Some-first_in_plane
returns-in-Some-first_in_plane c =
    let r = c.corners-a.result in
    let e = sym c.first_in_plane.ensures ∙ c.in-Some-first_in_plane.is in
    subst (λ (t : List ℕ). Some (Inside (Open t) c.in-Some-first_in_plane.point) ≡ flaw_of c.args.points.now (Open t))
    (sym c.corners-a.ensures.points)
    (sym (flaw_inside c.args.points.now r.0 r.1 r.2 c.in-Some.e (sym c.collinear.ensures ∙ c.if-collinear.false)
    (sym c.first_off.ensures ∙ c.in-Some.is) (sym c.first_opposite.ensures ∙ c.in_default.is)
    ∙ ap (inside_with (Open (r.0 ∷ r.1 ∷ r.2 ∷ []))) e))

pub returns-in-None-first_in_plane : goal.returns-in-None-first_in_plane
returns-in-None-first_in_plane c =
    let r = c.corners-a.result in
    let e = sym c.first_in_plane.ensures ∙ c.in-None-first_in_plane.is in
    subst (λ (t : List ℕ). None ≡ flaw_of c.args.points.now (Open t)) (sym c.corners-a.ensures.points)
    (sym (flaw_inside c.args.points.now r.0 r.1 r.2 c.in-Some.e (sym c.collinear.ensures ∙ c.if-collinear.false)
    (sym c.first_off.ensures ∙ c.in-Some.is) (sym c.first_opposite.ensures ∙ c.in_default.is)
    ∙ ap (inside_with (Open (r.0 ∷ r.1 ∷ r.2 ∷ []))) e))
