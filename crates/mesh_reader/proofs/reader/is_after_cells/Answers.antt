use Rattle.std.proofs.Common.{sym, ap, ◌∙◌}
use Rattle.std.specs.Prelude.{List, ℕ}
use Rattle.mesh_reader.specs.Judging.{is_after_last, is_less}
use Rattle.mesh_reader.proofs.Taken.{after_last, less_is, less_not}
use Rattle.mesh_reader.proofs.reader.is_after_cells.Goals as goal

pub returns-in-Less : goal.returns-in-Less
returns-in-Less c =
    sym (ap (λ (l : List (List ℕ)). is_after_last is_less l c.args.quad) c.in-Some.ensures.1
    ∙ after_last is_less c.in-Some.ensures.0 c.in-Some.last c.args.quad
    ∙ less_is c.in-Some.last c.args.quad (sym c.compare.ensures ∙ c.in-Less.is))

pub returns-in_default : goal.returns-in_default
returns-in_default c =
    sym (ap (λ (l : List (List ℕ)). is_after_last is_less l c.args.quad) c.in-Some.ensures.1
    ∙ after_last is_less c.in-Some.ensures.0 c.in-Some.last c.args.quad
    ∙ less_not c.in-Some.last c.args.quad (λ e. c.in_default.not-Less (c.compare.ensures ∙ e)))
