use Rattle.std.proofs.Common.{sym, ◌∙◌, ap, subst}
use Rattle.point_order.specs.Sets.{IsAscending, with_point, without_point}
use Rattle.point_order.proofs.Cited.{ascending_with}
use Rattle.edit_history.proofs.Moving.{after_moved, has_moved, moved_either, places_differ}
use Rattle.edit_history.proofs.SetEdits.{ascending_without}
use Rattle.edit_history.proofs.point_set.PointSet.shift.Goals as goal

pub invariant_of-self : goal.invariant_of-self
invariant_of-self c =
    let s = c.self.inside.points.items in
    rw c.exchange.ensures (ascending_with c.args.b (without_point c.args.a s)
    (ascending_without c.args.a s c.self.invariant))

pub returns-in-Moved-clause-set : goal.returns-in-Moved-clause-set
returns-in-Moved-clause-set c =
    let a = c.args.a in
    let b = c.args.b in
    let s = c.args.self.now in
    let moved = sym c.reply_of_move-reply.ensures ∙ c.in-Moved.is in
    let h = has_moved a b s moved in
    c.exchange.ensures
    ∙ ap (λ l. with_point b (without_point a l)) c.self.view_is
    ∙ moved_either a b s (subst IsAscending c.self.view_is c.self.invariant) (places_differ a b s h.there h.free)
    ∙ sym (after_moved a b s moved)
