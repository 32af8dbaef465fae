use Rattle.std.proofs.Common.{refl, ◌∙◌, sym}
use Rattle.edit_outcomes.proofs.Changing.{came_ascending, take_new, take_old, there_if_came, there_if_not_gone}
use Rattle.edit_outcomes.proofs.changes.Changes.take.Goals as goal

pub returns-then-has-clause-there : goal.returns-then-has-clause-there
returns-then-has-clause-there c = λ t are.
    c.in_ok-was_there.ensures.new
    ∙ there_if_not_gone c.args.set.now.keys t c.args.p c.args.self.now are (sym c.has.ensures ∙ c.if-has.true)

pub returns-then-has-clause-taken : goal.returns-then-has-clause-taken
returns-then-has-clause-taken c = λ t are.
    let old = c.args.self.now in
    take_old c.args.set.now.keys t c.args.p old are (record { gone = c.put_in.new.points; came = old.came })
    (sym c.has.ensures ∙ c.if-has.true) c.in_ok-was_there.ensures.points refl

pub returns-clause-there : goal.returns-clause-there
returns-clause-there c = λ t are.
    c.take_out.ensures.there
    ∙ there_if_came c.args.set.now.keys t c.args.p c.args.self.now are (sym c.has.ensures ∙ c.if-has.false)

pub returns-clause-taken : goal.returns-clause-taken
returns-clause-taken c = λ t are.
    let s = c.args.set.now.keys in
    let p = c.args.p in
    let old = c.args.self.now in
    take_new s t p old are (record { gone = old.gone; came = c.take_out.new.points })
    (sym c.has.ensures ∙ c.if-has.false) refl (c.take_out.ensures.points (came_ascending s t p old are))
