use Rattle.std.proofs.Common.{arith}
use Rattle.edit_files.proofs.Pairs.{halves_one, halves_two, halves_three, halves_at}
use Rattle.edit_files.proofs.line.halves.Goals as goal

pub returns-in_err-behind_x : goal.returns-in_err-behind_x
returns-in_err-behind_x c =
    rw c.from_residual.ensures (halves_one c.args.line.now c.first_field.result.0.now (rw c.in_err-behind_x.was at
    c.first_field.ensures))

pub returns-in_err-behind_y : goal.returns-in_err-behind_y
returns-in_err-behind_y c =
    let first = rw c.in_ok-behind_x.was at c.first_field.ensures in
    let second = rw c.in_err-behind_y.was at c.first_field-2.ensures in
    rw c.from_residual-in_err-behind_y.ensures (halves_two c.args.line.now c.first_field.result.0.now
    c.in_ok-behind_x.field-0.now c.first_field-2.result.0.now first second)

pub returns-in_err-to : goal.returns-in_err-to
returns-in_err-to c =
    let first = rw c.in_ok-behind_x.was at c.first_field.ensures in
    let second = rw c.in_ok-behind_y.was at c.first_field-2.ensures in
    let third = rw c.in_err-to.was at c.first_field-3.ensures in
    rw c.from_residual-in_err-to.ensures (halves_three c.args.line.now c.first_field.result.0.now
    c.in_ok-behind_x.field-0.now c.first_field-2.result.0.now c.in_ok-behind_y.field-0.now
    c.first_field-3.result.0.now first second third)

pub overflow_sub-result : goal.overflow_sub-result
overflow_sub-result c =
    let first = rw c.in_ok-behind_x.was at c.first_field.ensures in
    let second = rw c.in_ok-behind_y.was at c.first_field-2.ensures in
    let third = rw c.in_ok-to.was at c.first_field-3.ensures in
    let e = halves_at c.args.line.now c.first_field.result.0.now c.in_ok-behind_x.field-0.now
    c.first_field-2.result.0.now c.in_ok-behind_y.field-0.now c.first_field-3.result.0.now c.in_ok-to.to.now first
    second third in
    omega (arith, e.long)

pub slice_bounds-result-count : goal.slice_bounds-result-count
slice_bounds-result-count c =
    let first = rw c.in_ok-behind_x.was at c.first_field.ensures in
    let second = rw c.in_ok-behind_y.was at c.first_field-2.ensures in
    let third = rw c.in_ok-to.was at c.first_field-3.ensures in
    let e = halves_at c.args.line.now c.first_field.result.0.now c.in_ok-behind_x.field-0.now
    c.first_field-2.result.0.now c.in_ok-behind_y.field-0.now c.first_field-3.result.0.now c.in_ok-to.to.now first
    second third in
    omega (arith, e.long)

pub returns : goal.returns
returns c =
    let first = rw c.in_ok-behind_x.was at c.first_field.ensures in
    let second = rw c.in_ok-behind_y.was at c.first_field-2.ensures in
    let third = rw c.in_ok-to.was at c.first_field-3.ensures in
    let e = halves_at c.args.line.now c.first_field.result.0.now c.in_ok-behind_x.field-0.now
    c.first_field-2.result.0.now c.in_ok-behind_y.field-0.now c.first_field-3.result.0.now c.in_ok-to.to.now first
    second third in
    e.halves_are
