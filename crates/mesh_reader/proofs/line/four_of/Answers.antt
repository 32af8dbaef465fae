use Rattle.std.proofs.Common.{sym}
use Rattle.std.specs.Prelude.{[], ◌∷◌}
use Rattle.mesh_reader.proofs.Fields.{no_first, no_others, one_alone, with_first}
use Rattle.mesh_reader.proofs.line.four_of.Goals as goal

pub returns-in_err-rest : goal.returns-in_err-rest
returns-in_err-rest c =
    rw c.from_residual.ensures (one_alone 2 c.args.line.now c.first_field.result.0.now
    (rw c.in_err-rest.was at c.first_field.ensures))

pub returns-in_err-second : goal.returns-in_err-second
returns-in_err-second c =
    rw c.from_residual-in_err-second.ensures
    (no_others 3 c.args.line.now c.first_field.result.0.now c.in_ok-rest.field-0.now
    (rw c.in_ok-rest.was at c.first_field.ensures) c.in_err-second.ensures)

pub returns-in_err-first : goal.returns-in_err-first
returns-in_err-first c =
    rw c.from_residual-in_err-first.ensures
    (no_first 3 c.args.line.now c.first_field.result.0.now c.in_ok-rest.field-0.now
    (rw c.in_ok-rest.was at c.first_field.ensures) (sym c.in_err-first.ensures.value))

pub returns : goal.returns
returns c =
    with_first 3 c.args.line.now c.first_field.result.0.now c.in_ok-rest.field-0.now c.in_ok-first.first
    (c.in_ok-second.second ∷ c.in_ok-second.third ∷ c.in_ok-second.fourth ∷ [])
    (rw c.in_ok-rest.was at c.first_field.ensures) (sym c.in_ok-first.ensures.value) c.in_ok-second.ensures
