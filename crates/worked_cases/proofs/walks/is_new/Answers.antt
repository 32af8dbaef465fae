use Rattle.std.proofs.Common.{sym, ◌∙◌, arith}
use Rattle.list_laws.proofs.Cited.{among_true, not_from}
use Rattle.worked_cases.proofs.walks.is_new.Goals as goal

pub returns-then-has : goal.returns-then-has
returns-then-has c t s shown = record {
  key = omega (arith, c.key.ensures.value, c.key.ensures.bound);
  absent = λ i. (let e = sym (not_from c.holds_point.result t) ∙ c.holds_point.ensures.in_set s shown
      ∙ among_true c.args.p s i in absurd (cc e));
}
