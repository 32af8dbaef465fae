use Rattle.std.proofs.Common.{sym, ◌∙◌, ap, ℕ, Option, Some, []}
use Rattle.text_readings.specs.Scanning.{number}
use Rattle.text_readings.proofs.Cited.{third_last, third_more}
use Rattle.mesh_reader.specs.Judging.{in_front}
use Rattle.mesh_reader.proofs.Fields.{more_fields, one_alone, two_fields}
use Rattle.mesh_reader.proofs.line.two_of.Goals as goal

pub returns-in_err-rest : goal.returns-in_err-rest
returns-in_err-rest c =
    rw c.from_residual.ensures (one_alone 0 c.args.line.now c.first_field.result.0.now
    (rw c.in_err-rest.was at c.first_field.ensures))

pub returns-then-is_some : goal.returns-then-is_some
returns-then-is_some c =
    let first = rw c.in_ok-rest.was at c.first_field.ensures in
    let more = third_more c.first_field-2.result.1 c.in_ok-rest.field-0.now c.first_field-2.result.0.now
    c.first_field-2.ensures (sym c.is_some.ensures ∙ c.if-is_some.true) in
    more_fields c.args.line.now c.first_field.result.0.now c.in_ok-rest.field-0.now c.first_field-2.result.0.now
    more.0 first more.1

pub returns-in_err-first : goal.returns-in_err-first
returns-in_err-first c =
    let first = rw c.in_ok-rest.was at c.first_field.ensures in
    let last = third_last c.first_field-2.result.1 c.in_ok-rest.field-0.now c.first_field-2.result.0.now
    c.first_field-2.ensures (sym c.is_some.ensures ∙ c.if-is_some.false) in
    rw c.from_residual-in_err-first.ensures (two_fields c.args.line.now c.first_field.result.0.now
    c.in_ok-rest.field-0.now c.first_field-2.result.0.now first last
    ∙ ap (λ (o : Option ℕ). in_front o (in_front (number c.first_field-2.result.0.now) (Some [])))
    (sym c.in_err-first.ensures.value))

pub returns-in_err-second : goal.returns-in_err-second
returns-in_err-second c =
    let first = rw c.in_ok-rest.was at c.first_field.ensures in
    let last = third_last c.first_field-2.result.1 c.in_ok-rest.field-0.now c.first_field-2.result.0.now
    c.first_field-2.ensures (sym c.is_some.ensures ∙ c.if-is_some.false) in
    rw c.from_residual-in_err-second.ensures (two_fields c.args.line.now c.first_field.result.0.now
    c.in_ok-rest.field-0.now c.first_field-2.result.0.now first last
    ∙ ap (λ (o : Option ℕ). in_front o (in_front (number c.first_field-2.result.0.now) (Some [])))
    (sym c.in_ok-first.ensures.value)
    ∙ ap (λ (o : Option ℕ). in_front (Some c.in_ok-first.first) (in_front o (Some [])))
    (sym c.in_err-second.ensures.value))

pub returns : goal.returns
returns c =
    let first = rw c.in_ok-rest.was at c.first_field.ensures in
    let last = third_last c.first_field-2.result.1 c.in_ok-rest.field-0.now c.first_field-2.result.0.now
    c.first_field-2.ensures (sym c.is_some.ensures ∙ c.if-is_some.false) in
    two_fields c.args.line.now c.first_field.result.0.now c.in_ok-rest.field-0.now c.first_field-2.result.0.now first
    last
    ∙ ap (λ (o : Option ℕ). in_front o (in_front (number c.first_field-2.result.0.now) (Some [])))
    (sym c.in_ok-first.ensures.value)
    ∙ ap (λ (o : Option ℕ). in_front (Some c.in_ok-first.first) (in_front o (Some [])))
    (sym c.in_ok-second.ensures.value)
