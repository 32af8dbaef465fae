use Rattle.std.proofs.Common.{sym, ap, ◌∙◌}
use Rattle.std.specs.Prelude.{List, ℕ}
use Rattle.mesh_reader.specs.Judging.{is_after_last, is_less}
use Rattle.mesh_reader.proofs.Taken.{after_last, less_is, less_not}
use Rattle.mesh_reader.proofs.reader.is_after_triples.Goals as goal

pub returns-in-Less : goal.returns-in-Less
returns-in-Less c =
    sym (ap (λ (l : List (List ℕ)). is_after_last is_less l c.args.tri) c.in-Some.ensures.cases.0
    ∙ after_last is_less c.in-Some.field-0-1.now c.in-Some.last.now c.args.tri ∙ less_is c.in-Some.last.now c.args.tri
    (sym c.compare.ensures ∙ c.in-Less.is))

pub returns-in_default : goal.returns-in_default
returns-in_default c =
    sym (ap (λ (l : List (List ℕ)). is_after_last is_less l c.args.tri) c.in-Some.ensures.cases.0
    ∙ after_last is_less c.in-Some.field-0-1.now c.in-Some.last.now c.args.tri
    ∙ less_not c.in-Some.last.now c.args.tri (λ e. c.in_default.not-Less (c.compare.ensures ∙ e)))
