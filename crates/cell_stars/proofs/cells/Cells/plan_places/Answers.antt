use Rattle.std.proofs.Common.{ℕ, List, ◌≤◌, length, subst, sym, ap, ◌∙◌, arith, Option}
use Rattle.std.specs.Option.{option_map}
use Rattle.point_order.specs.declared.cell.Cell.{Cell}
use Rattle.point_order.specs.Sets.{IsIn}
use Rattle.cell_stars.specs.Plans.{or_else}
use Rattle.cell_stars.specs.Moves.{HasSameCells}
use Rattle.cell_stars.proofs.cells.Cells.plan_places.Goals as goal

pub returns-clause-same : goal.returns-clause-same
returns-clause-same c =
    let grown = option_map (λ v. v.items) c.in_ok-grown.grown in
    subst (λ (l : List (Option Cell)). HasSameCells l (or_else grown l))
    (c.deref-2.ensures.value ∙ ap (λ v. v.slots) c.self.view_is) c.in_ok-grown.ensures.same

pub returns-clause-long : goal.returns-clause-long
returns-clause-long c i d m =
    let grown = option_map (λ v. v.items) c.in_ok-grown.grown in
    let t = c.behind_numbers-end.ensures i d (subst (λ (l : List (ℕ × Cell)). IsIn (i, d) l) (sym c.deref.ensures.value)
    m) in
    let u = subst (λ (l : List (Option Cell)). c.behind_numbers-end.result ≤ length (or_else grown l))
    (c.deref-2.ensures.value ∙ ap (λ v. v.slots) c.self.view_is) c.in_ok-grown.ensures.long in
    omega (arith, t, u)

pub returns-clause-slots : goal.returns-clause-slots
returns-clause-slots c = c.in_ok-rim.ensures ∙ c.in_ok-slots.ensures
