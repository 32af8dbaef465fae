use Rattle.std.proofs.Common.{sym, ap, ◌∙◌}
use Rattle.std.specs.Prelude.{List, nat_lt, ℕ}
use Rattle.mesh_reader.specs.Judging.{is_after_last}
use Rattle.mesh_reader.proofs.Taken.{after_last, lt_is}
use Rattle.mesh_reader.proofs.reader.is_after_points.Goals as goal

pub returns-in-Some : goal.returns-in-Some
returns-in-Some c =
    c.lt.ensures ∙ lt_is c.in-Some.last.now c.args.p ∙ sym (ap (λ (l : List ℕ). is_after_last nat_lt l c.args.p)
    c.in-Some.ensures.cases.0 ∙ after_last nat_lt c.in-Some.field-0-1.now c.in-Some.last.now c.args.p)
