use Rattle.std.proofs.Common.{◌≡◌, ◌∙◌, ap, sym, true, false}
use Rattle.list_laws.proofs.Cited.{on_err}
use Rattle.point_order.specs.Sets.{is_among, without_point}
use Rattle.point_order.specs.Solid.{is_solid}
use Rattle.edit_history.proofs.Cited.{flat, missing, reply_there}
use Rattle.linked_mesh.proofs.Replied.{taken_flat, taken_missing, taken_out}
use Rattle.linked_mesh.proofs.set.LinkedSet.take.Goals as goal

pub returns-then-not-has-clause-reply : goal.returns-then-not-has-clause-reply
returns-then-not-has-clause-reply c =
    sym (missing c.args.self.now c.args.p
    (ap (is_among c.args.p) (sym c.self.view_is) ∙ sym c.has.ensures ∙ c.if-not-has.true))

pub returns-then-not-has-clause-set : goal.returns-then-not-has-clause-set
returns-then-not-has-clause-set c =
    taken_missing c.args.self.now c.args.p
    (ap (is_among c.args.p) (sym c.self.view_is) ∙ sym c.has.ensures ∙ c.if-not-has.true)

pub take_out-requires-clause-there : goal.take_out-requires-clause-there
take_out-requires-clause-there c = sym c.has.ensures ∙ c.if-not-has.false

pub returns-in_err-is_removed-clause-refused : goal.returns-in_err-is_removed-clause-refused
returns-in_err-is_removed-clause-refused c =
    on_err c.from_residual.result (c.in_err-is_removed.ensures.refused ∙ c.self.view_is)

pub returns-then-is_removed-clause-reply : goal.returns-then-is_removed-clause-reply
returns-then-is_removed-clause-reply c =
    let s = c.args.self.now in
    let p = c.args.p in
    let there : is_among p s ≡ true = ap (is_among p) (sym c.self.view_is) ∙ sym c.has.ensures ∙ c.if-not-has.false in
    let solid : is_solid (without_point p s) ≡ true = ap (λ k. is_solid (without_point p k)) (sym c.self.view_is)
    ∙ sym c.in_ok-is_removed.ensures.solid ∙ c.if-is_removed.true in
    sym (reply_there s p there solid)

pub returns-then-is_removed-clause-set : goal.returns-then-is_removed-clause-set
returns-then-is_removed-clause-set c =
    let s = c.args.self.now in
    let p = c.args.p in
    let there : is_among p s ≡ true = ap (is_among p) (sym c.self.view_is) ∙ sym c.has.ensures ∙ c.if-not-has.false in
    let solid : is_solid (without_point p s) ≡ true = ap (λ k. is_solid (without_point p k)) (sym c.self.view_is)
    ∙ sym c.in_ok-is_removed.ensures.solid ∙ c.if-is_removed.true in
    let left = rw c.if-is_removed.true at c.in_ok-is_removed.ensures.points in
    left ∙ ap (without_point p) c.self.view_is ∙ taken_out s p there solid

pub returns-clause-reply : goal.returns-clause-reply
returns-clause-reply c =
    let s = c.args.self.now in
    let p = c.args.p in
    let there : is_among p s ≡ true = ap (is_among p) (sym c.self.view_is) ∙ sym c.has.ensures ∙ c.if-not-has.false in
    let level : is_solid (without_point p s) ≡ false = ap (λ k. is_solid (without_point p k)) (sym c.self.view_is)
    ∙ sym c.in_ok-is_removed.ensures.solid ∙ c.if-is_removed.false in
    sym (flat s p there level)

pub returns-clause-set : goal.returns-clause-set
returns-clause-set c =
    let s = c.args.self.now in
    let p = c.args.p in
    let there : is_among p s ≡ true = ap (is_among p) (sym c.self.view_is) ∙ sym c.has.ensures ∙ c.if-not-has.false in
    let level : is_solid (without_point p s) ≡ false = ap (λ k. is_solid (without_point p k)) (sym c.self.view_is)
    ∙ sym c.in_ok-is_removed.ensures.solid ∙ c.if-is_removed.false in
    let left = rw c.if-is_removed.false at c.in_ok-is_removed.ensures.points in
    left ∙ c.self.view_is ∙ taken_flat s p there level
