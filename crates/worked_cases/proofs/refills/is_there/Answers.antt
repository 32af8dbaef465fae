use Rattle.std.proofs.Common.{sym, ◌∙◌}
use Rattle.list_laws.proofs.Cited.{among_from}
use Rattle.worked_cases.proofs.refills.is_there.Goals as goal

pub returns-then-has-clause-there : goal.returns-then-has-clause-there
returns-then-has-clause-there c t s shown = among_from c.args.v s (sym (c.holds_point.ensures.in_set s shown) ∙ t)
