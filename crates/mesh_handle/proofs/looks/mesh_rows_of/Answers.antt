use Rattle.std.proofs.Common.{◌∙◌, ◌≤◌, ◌^◌, ℕ, inl, inr, subst, List, length}
use Rattle.point_order.specs.declared.cell.Cell.{Cell}
use Rattle.mesh_handle.proofs.looks.mesh_rows_of.Goals as goal

pub returns-then-not-are_few-clause-cause : goal.returns-then-not-are_few-clause-cause
returns-then-not-are_few-clause-cause c =
    let points = c.deref.ensures.value ∙ c.in_ok-set.ensures.points in
    let cells = c.deref-2.ensures.value ∙ c.in_ok-all.ensures.cells in
    elim (c.are_few.ensures.many c.if-not-are_few.true) [
      | inl m ↦ inl (subst (λ (l : List ℕ). 2 ^ 32 ≤ length l) points m)
      | inr m ↦ inr (subst (λ (l : List Cell). 2 ^ 32 ≤ length l) cells m)
    ]
