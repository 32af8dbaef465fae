use Rattle.std.proofs.Common.{◌∙◌, sym, subst, inl, inr, ℕ}
use Rattle.list_laws.proofs.Cited.{among_from, among_true, in_pushed, pushed_new, pushed_old}
use Rattle.point_order.specs.Sets.{IsIn}
use Rattle.edit_outcomes.proofs.anchors.push_there.Goals as goal

pub returns-in_ok-push-clause-there : goal.returns-in_ok-push-clause-there
returns-in_ok-push-clause-there c = λ t are of q i.
    elim (in_pushed c.args.list.now.items c.push.new.self.items c.args.p q c.in_ok-push.ensures.items i) [
      | inl j ↦ of q j
      | inr e ↦ subst (λ (r : ℕ). IsIn r t) e (among_from c.args.p t (sym (c.has.ensures t are) ∙ c.if-has.true))
    ]

pub returns-in_ok-push-clause-kept : goal.returns-in_ok-push-clause-kept
returns-in_ok-push-clause-kept c = λ q i.
    pushed_old c.args.list.now.items c.push.new.self.items c.args.p q c.in_ok-push.ensures.items i

pub returns-in_ok-push-clause-pushed : goal.returns-in_ok-push-clause-pushed
returns-in_ok-push-clause-pushed c = λ t are i.
    pushed_new c.args.list.now.items c.push.new.self.items c.args.p c.in_ok-push.ensures.items

pub returns-else-has-clause-pushed : goal.returns-else-has-clause-pushed
returns-else-has-clause-pushed c = λ t are i.
    let e = among_true c.args.p t i in
    let f = c.has.ensures t are in
    let g = c.if-has.false in absurd (cc (e, f, g))
