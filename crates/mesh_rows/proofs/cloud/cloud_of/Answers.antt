use Rattle.std.proofs.Common.{◌∙◌, ◌<◌, ◌≤◌, ◌^◌, ℕ, ap, inl, inr, sym, subst, List, length}
use Rattle.point_order.specs.declared.cell.Cell.{Cell}
use Rattle.point_order.specs.Complex.{complex}
use Rattle.point_order.specs.Sets.{IsAscending}
use Rattle.point_order.specs.Solid.{is_solid}
use Rattle.mesh_rows.proofs.Clouds.{passed_on}
use Rattle.mesh_rows.proofs.cloud.cloud_of.Goals as goal

pub returns-in_err-points-clause-refused : goal.returns-in_err-points-clause-refused
returns-in_err-points-clause-refused c =
    passed_on c.args.given.now _ c.from_residual.result c.from_residual.ensures.1 c.in_err-points.ensures.refused

pub returns-then-not-are_solid-clause-refused : goal.returns-then-not-are_solid-clause-refused
returns-then-not-are_solid-clause-refused c = (
  c.in_ok-points.points.items,
  c.in_ok-points.ensures.set,
  ap is_solid (sym c.deref.ensures.value) ∙ sym c.are_solid.ensures ∙ c.if-not-are_solid.true,
)

pub complex_of_points-requires-clause-ascending : goal.complex_of_points-requires-clause-ascending
complex_of_points-requires-clause-ascending c =
    subst IsAscending (sym c.deref-2.ensures.value) c.in_ok-points.ensures.set.set.ascending

pub complex_of_points-requires-clause-solid : goal.complex_of_points-requires-clause-solid
complex_of_points-requires-clause-solid c =
    ap is_solid (c.deref-2.ensures.value ∙ sym c.deref.ensures.value) ∙ sym c.are_solid.ensures
    ∙ c.if-not-are_solid.false

pub returns-in_err-cells-clause-refused : goal.returns-in_err-cells-clause-refused
returns-in_err-cells-clause-refused c =
    passed_on c.args.given.now _ c.from_residual-in_err-cells.result c.from_residual-in_err-cells.ensures.1 tt

pub returns-then-not-are_few-clause-refused : goal.returns-then-not-are_few-clause-refused
returns-then-not-are_few-clause-refused c =
    let all = c.deref-4.ensures.value ∙ c.in_ok-cells.ensures ∙ ap complex c.deref-2.ensures.value in (
      c.in_ok-points.points.items,
      c.in_ok-points.ensures.set,
      elim (c.are_few.ensures.many c.if-not-are_few.true) [
        | inl m ↦ inl (subst (λ (l : List ℕ). 2 ^ 32 ≤ length l) c.deref-3.ensures.value m)
        | inr m ↦ inr (subst (λ (l : List Cell). 2 ^ 32 ≤ length l) all m)
      ],
    )

pub returns-clause-cloud : goal.returns-clause-cloud
returns-clause-cloud c = record {
  set = c.in_ok-points.ensures.set.set;
  solid = ap is_solid (sym c.deref.ensures.value) ∙ sym c.are_solid.ensures ∙ c.if-not-are_solid.false;
  cells_are = c.in_ok-cells.ensures ∙ ap complex c.deref-2.ensures.value;
  few_points =
      subst (λ (l : List ℕ). length l < 2 ^ 32) c.deref-3.ensures.value
      (c.are_few.ensures.points c.if-not-are_few.false);
  few_cells =
      subst (λ (l : List Cell). length l < 2 ^ 32) c.deref-4.ensures.value
      (c.are_few.ensures.cells c.if-not-are_few.false);
}
