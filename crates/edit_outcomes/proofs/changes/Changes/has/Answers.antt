use Rattle.std.specs.Prelude.{not}
use Rattle.std.proofs.Common.{◌∙◌, ap, sym}
use Rattle.edit_outcomes.proofs.Changing.{there_if_came, there_if_not_gone}
use Rattle.edit_outcomes.proofs.changes.Changes.has.Goals as goal

pub returns-then-has : goal.returns-then-has
returns-then-has c = λ t are.
    ap not c.has-then-has.ensures
    ∙ there_if_not_gone c.args.set.now.keys t c.args.p c.args.self.now are (sym c.has.ensures ∙ c.if-has.true)

pub returns-else-has : goal.returns-else-has
returns-else-has c = λ t are.
    c.has-else-has.ensures
    ∙ there_if_came c.args.set.now.keys t c.args.p c.args.self.now are (sym c.has.ensures ∙ c.if-has.false)
