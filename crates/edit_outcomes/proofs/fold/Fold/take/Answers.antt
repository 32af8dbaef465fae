use Rattle.std.specs.Prelude.{◌≡◌, Option, IfSome, List, ℕ, false, true}
use Rattle.std.proofs.Common.{refl, ◌∙◌, subst, sym}
use Rattle.list_laws.proofs.Cited.{among_from}
use Rattle.point_order.specs.Sets.{is_among, with_point, without_point}
use Rattle.point_order.specs.Solid.{is_solid}
use Rattle.edit_outcomes.specs.declared.changes.Changes.{Changes}
use Rattle.edit_outcomes.specs.Folding.{AreAnchors, AreChanges}
use Rattle.edit_outcomes.proofs.Changing.{out_and_in, without_absent, without_true}
use Rattle.edit_outcomes.proofs.Folding.{stands}
use Rattle.edit_outcomes.proofs.fold.Fold.take.Goals as goal

pub returns-then-not-branch-clause-set : goal.returns-then-not-branch-clause-set
returns-then-not-branch-clause-set c = λ t was.
    let p = c.args.p in
    let old = c.args.self.now in
    let e : is_among p t ≡ false = sym (c.in_ok-take.ensures.there t was.changes) ∙ c.if-not-branch.true in
    rw e (stands c.args.set.now.keys (without_point p t) t
    (record { changes = c.take.new.self; anchors = old.anchors; moving = old.moving })
    (without_absent p t was.changes.now e) (c.in_ok-take.ensures.taken t was.changes) was.anchors)

pub returns-then-branch-clause-reply : goal.returns-then-branch-clause-reply
returns-then-branch-clause-reply c = λ t was.
    let p = c.args.p in
    let e : is_among p t ≡ true = sym (c.in_ok-take.ensures.there t was.changes) ∙ c.if-not-branch.false in
    let f : is_solid (without_point p t) ≡ true = sym (c.in_ok-stays_solid.ensures.solid t (without_point p t)
    was.anchors (without_true p t) (c.in_ok-take.ensures.taken t was.changes))
    ∙ c.if-branch.true in
    rw (e, f) refl

pub returns-then-branch-clause-set : goal.returns-then-branch-clause-set
returns-then-branch-clause-set c = λ t was.
    let s = c.args.set.now.keys in
    let p = c.args.p in
    let rest = without_point p t in
    let taken = c.in_ok-take.ensures.taken t was.changes in
    let e : is_among p t ≡ true = sym (c.in_ok-take.ensures.there t was.changes) ∙ c.if-not-branch.false in
    let f : is_solid (without_point p t) ≡ true = sym (c.in_ok-stays_solid.ensures.solid t rest was.anchors
    (without_true p t) taken)
    ∙ c.if-branch.true in
    rw (e, f) (stands s rest rest c.stays_solid.new.self refl
    (subst (λ (x : Changes). AreChanges s rest x) (sym c.in_ok-stays_solid.ensures.changes) taken)
    (c.in_ok-stays_solid.ensures.anchors t rest was.anchors (without_true p t) taken c.if-branch.true))

pub returns-clause-reply : goal.returns-clause-reply
returns-clause-reply c = λ t was.
    let p = c.args.p in
    let e : is_among p t ≡ true = sym (c.in_ok-take.ensures.there t was.changes) ∙ c.if-not-branch.false in
    let f : is_solid (without_point p t) ≡ false = sym (c.in_ok-stays_solid.ensures.solid t (without_point p t)
    was.anchors (without_true p t) (c.in_ok-take.ensures.taken t was.changes))
    ∙ c.if-branch.false in
    rw (e, f) refl

pub returns-clause-set : goal.returns-clause-set
returns-clause-set c = λ t was.
    let s = c.args.set.now.keys in
    let p = c.args.p in
    let rest = without_point p t in
    let now = c.stays_solid.new.self in
    let taken = c.in_ok-take.ensures.taken t was.changes in
    let e : is_among p t ≡ true = sym (c.in_ok-take.ensures.there t was.changes) ∙ c.if-not-branch.false in
    let f : is_solid (without_point p t) ≡ false = sym (c.in_ok-stays_solid.ensures.solid t rest was.anchors
    (without_true p t) taken)
    ∙ c.if-branch.false in
    rw (e, f) (stands s (with_point p rest) t
    (record { changes = c.put.new.self; anchors = now.anchors; moving = now.moving })
    (out_and_in p t was.changes.now (among_from p t e))
    (c.in_ok-put.ensures.put rest
    (subst (λ (x : Changes). AreChanges s rest x) (sym c.in_ok-stays_solid.ensures.changes) taken))
    (subst (λ (o : Option (List ℕ)). IfSome o (AreAnchors t))
    (sym (c.in_ok-stays_solid.ensures.kept c.if-branch.false)) was.anchors))
