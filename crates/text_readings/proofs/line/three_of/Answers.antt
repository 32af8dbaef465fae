use Rattle.std.proofs.Common.{ℕ, Option, Some, sym, ap, ◌∙◌}
use Rattle.text_readings.specs.Scanning.{number, point_from}
use Rattle.text_readings.proofs.Points.{point_one, point_two, point_four, point_is, third_more, third_last}
use Rattle.text_readings.proofs.line.three_of.Goals as goal

pub returns-in_err-behind_x-clause-value : goal.returns-in_err-behind_x-clause-value
returns-in_err-behind_x-clause-value c =
    rw c.from_residual.ensures (point_one c.args.line.now c.first_field.result.0.now (rw c.in_err-behind_x.was at
    c.first_field.ensures))

pub returns-in_err-behind_y-clause-value : goal.returns-in_err-behind_y-clause-value
returns-in_err-behind_y-clause-value c =
    let first = rw c.in_ok-behind_x.was at c.first_field.ensures in
    let second = rw c.in_err-behind_y.was at c.first_field-2.ensures in
    rw c.from_residual-in_err-behind_y.ensures (point_two c.args.line.now c.first_field.result.0.now
    c.in_ok-behind_x.field-0.now c.first_field-2.result.0.now first second)

pub returns-then-is_some-clause-value : goal.returns-then-is_some-clause-value
returns-then-is_some-clause-value c =
    let first = rw c.in_ok-behind_x.was at c.first_field.ensures in
    let second = rw c.in_ok-behind_y.was at c.first_field-2.ensures in
    let third = third_more c.first_field-3.result.1 c.in_ok-behind_y.field-0.now c.first_field-3.result.0.now
    c.first_field-3.ensures (sym c.is_some.ensures ∙ c.if-is_some.true) in
    point_four c.args.line.now c.first_field.result.0.now c.in_ok-behind_x.field-0.now c.first_field-2.result.0.now
    c.in_ok-behind_y.field-0.now c.first_field-3.result.0.now third.0 first second third.1

pub returns-in_err-x-clause-value : goal.returns-in_err-x-clause-value
returns-in_err-x-clause-value c =
    let first = rw c.in_ok-behind_x.was at c.first_field.ensures in
    let second = rw c.in_ok-behind_y.was at c.first_field-2.ensures in
    let third = third_last c.first_field-3.result.1 c.in_ok-behind_y.field-0.now c.first_field-3.result.0.now
    c.first_field-3.ensures (sym c.is_some.ensures ∙ c.if-is_some.false) in
    let all = point_is c.args.line.now c.first_field.result.0.now c.in_ok-behind_x.field-0.now
    c.first_field-2.result.0.now c.in_ok-behind_y.field-0.now c.first_field-3.result.0.now first second third in
    rw c.from_residual-in_err-x.ensures (all ∙ ap (λ (x : Option ℕ). point_from x (number c.first_field-2.result.0.now)
    (number c.first_field-3.result.0.now)) (sym c.in_err-x.ensures.value))

-- the second field is no number: the line is not of its form
pub returns-in_err-y-clause-value : goal.returns-in_err-y-clause-value
returns-in_err-y-clause-value c =
    let first = rw c.in_ok-behind_x.was at c.first_field.ensures in
    let second = rw c.in_ok-behind_y.was at c.first_field-2.ensures in
    let third = third_last c.first_field-3.result.1 c.in_ok-behind_y.field-0.now c.first_field-3.result.0.now
    c.first_field-3.ensures (sym c.is_some.ensures ∙ c.if-is_some.false) in
    let all = point_is c.args.line.now c.first_field.result.0.now c.in_ok-behind_x.field-0.now
    c.first_field-2.result.0.now c.in_ok-behind_y.field-0.now c.first_field-3.result.0.now first second third in
    rw c.from_residual-in_err-y.ensures (all
    ∙ ap (λ (x : Option ℕ). point_from x (number c.first_field-2.result.0.now) (number c.first_field-3.result.0.now))
    (sym c.in_ok-x.ensures.value)
    ∙ ap (λ (y : Option ℕ). point_from (Some c.in_ok-x.x) y (number c.first_field-3.result.0.now))
    (sym c.in_err-y.ensures.value))

-- the third field is no number: the line is not of its form
pub returns-in_err-z-clause-value : goal.returns-in_err-z-clause-value
returns-in_err-z-clause-value c =
    let first = rw c.in_ok-behind_x.was at c.first_field.ensures in
    let second = rw c.in_ok-behind_y.was at c.first_field-2.ensures in
    let third = third_last c.first_field-3.result.1 c.in_ok-behind_y.field-0.now c.first_field-3.result.0.now
    c.first_field-3.ensures (sym c.is_some.ensures ∙ c.if-is_some.false) in
    let all = point_is c.args.line.now c.first_field.result.0.now c.in_ok-behind_x.field-0.now
    c.first_field-2.result.0.now c.in_ok-behind_y.field-0.now c.first_field-3.result.0.now first second third in
    rw c.from_residual-in_err-z.ensures (all
    ∙ ap (λ (x : Option ℕ). point_from x (number c.first_field-2.result.0.now) (number c.first_field-3.result.0.now))
    (sym c.in_ok-x.ensures.value)
    ∙ ap (λ (y : Option ℕ). point_from (Some c.in_ok-x.x) y (number c.first_field-3.result.0.now))
    (sym c.in_ok-y.ensures.value)
    ∙ ap (λ (z : Option ℕ). point_from (Some c.in_ok-x.x) (Some c.in_ok-y.y) z) (sym c.in_err-z.ensures.value))

-- all three are numbers: what is returned is the point that they make
pub returns-clause-value : goal.returns-clause-value
returns-clause-value c =
    let first = rw c.in_ok-behind_x.was at c.first_field.ensures in
    let second = rw c.in_ok-behind_y.was at c.first_field-2.ensures in
    let third = third_last c.first_field-3.result.1 c.in_ok-behind_y.field-0.now c.first_field-3.result.0.now
    c.first_field-3.ensures (sym c.is_some.ensures ∙ c.if-is_some.false) in
    let all = point_is c.args.line.now c.first_field.result.0.now c.in_ok-behind_x.field-0.now
    c.first_field-2.result.0.now c.in_ok-behind_y.field-0.now c.first_field-3.result.0.now first second third in
    all
    ∙ ap (λ (x : Option ℕ). point_from x (number c.first_field-2.result.0.now) (number c.first_field-3.result.0.now))
    (sym c.in_ok-x.ensures.value)
    ∙ ap (λ (y : Option ℕ). point_from (Some c.in_ok-x.x) y (number c.first_field-3.result.0.now))
    (sym c.in_ok-y.ensures.value)
    ∙ ap (λ (z : Option ℕ). point_from (Some c.in_ok-x.x) (Some c.in_ok-y.y) z) (sym c.in_ok-z.ensures.value)
