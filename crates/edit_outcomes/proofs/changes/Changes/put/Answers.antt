use Rattle.std.specs.Prelude.{not}
use Rattle.std.proofs.Common.{refl, ◌∙◌, ap, sym}
use Rattle.edit_outcomes.proofs.Changing.{gone_ascending, gone_if_not_there, put_back, put_new, there_if_came}
use Rattle.edit_outcomes.proofs.changes.Changes.put.Goals as goal

pub returns-then-has-clause-new : goal.returns-then-has-clause-new
returns-then-has-clause-new c = λ t are.
    c.take_out.ensures.there
    ∙ gone_if_not_there c.args.set.now.keys t c.args.p c.args.self.now are (sym c.has.ensures ∙ c.if-has.true)

pub returns-then-has-clause-put : goal.returns-then-has-clause-put
returns-then-has-clause-put c = λ t are.
    let s = c.args.set.now.keys in
    let p = c.args.p in
    let old = c.args.self.now in
    let there = sym c.has.ensures ∙ c.if-has.true in
    put_back s t p old are (record { gone = c.take_out.new.points; came = old.came }) there
    (c.take_out.ensures.points (gone_ascending s t p old are)) refl

pub returns-clause-new : goal.returns-clause-new
returns-clause-new c = λ t are.
    c.in_ok-is_new.ensures.new
    ∙ ap not (there_if_came c.args.set.now.keys t c.args.p c.args.self.now are (sym c.has.ensures ∙ c.if-has.false))

pub returns-clause-put : goal.returns-clause-put
returns-clause-put c = λ t are.
    let old = c.args.self.now in
    put_new c.args.set.now.keys t c.args.p old are (record { gone = old.gone; came = c.put_in.new.points })
    (sym c.has.ensures ∙ c.if-has.false) refl c.in_ok-is_new.ensures.points
