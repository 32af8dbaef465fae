use Rattle.std.specs.Prelude.{◌≡◌, Option, IfSome, List, ℕ, false, true}
use Rattle.std.proofs.Common.{refl, ◌∙◌, subst, sym}
use Rattle.point_order.specs.Sets.{is_among, with_point, without_point}
use Rattle.point_order.specs.Solid.{is_solid}
use Rattle.point_order.proofs.Cited.{in_with_old}
use Rattle.edit_history.specs.Edits.{moved_to}
use Rattle.edit_outcomes.specs.declared.changes.Changes.{Changes}
use Rattle.edit_outcomes.specs.Folding.{AreAnchors, AreChanges}
use Rattle.edit_outcomes.proofs.Changing.{moved_back, without_true}
use Rattle.edit_outcomes.proofs.Folding.{stands}
use Rattle.edit_outcomes.proofs.fold.Fold.shift.Goals as goal

pub returns-then-branch-clause-reply : goal.returns-then-branch-clause-reply
returns-then-branch-clause-reply c = λ t was.
    let a = c.args.a in
    let b = c.args.b in
    let e : is_among a t ≡ true = sym (c.has.ensures t was.changes) ∙ c.if-not-has.false in
    let f : is_among b t ≡ false = sym (c.has-2.ensures t was.changes) ∙ c.if-has.false in
    let g : is_solid (moved_to a b t) ≡ true = sym (c.in_ok-stays_solid.ensures.solid t (moved_to a b t) was.anchors
    (λ q i. without_true a (with_point b t) q (in_with_old b q t i))
    (c.in_ok-take.ensures.taken (with_point b t) (c.in_ok-put.ensures.put t was.changes)))
    ∙ c.if-branch.true in
    rw (e, f, g) refl

pub returns-then-branch-clause-set : goal.returns-then-branch-clause-set
returns-then-branch-clause-set c = λ t was.
    let s = c.args.set.now.keys in
    let a = c.args.a in
    let b = c.args.b in
    let to = moved_to a b t in
    let taken = c.in_ok-take.ensures.taken (with_point b t) (c.in_ok-put.ensures.put t was.changes) in
    let e : is_among a t ≡ true = sym (c.has.ensures t was.changes) ∙ c.if-not-has.false in
    let f : is_among b t ≡ false = sym (c.has-2.ensures t was.changes) ∙ c.if-has.false in
    let g : is_solid (moved_to a b t) ≡ true = sym (c.in_ok-stays_solid.ensures.solid t to was.anchors
    (λ q i. without_true a (with_point b t) q (in_with_old b q t i)) taken)
    ∙ c.if-branch.true in
    rw (e, f, g) (stands s to to c.stays_solid.new.self refl
    (subst (λ (x : Changes). AreChanges s to x) (sym c.in_ok-stays_solid.ensures.changes) taken)
    (c.in_ok-stays_solid.ensures.anchors t to was.anchors
    (λ q i. without_true a (with_point b t) q (in_with_old b q t i)) taken c.if-branch.true))

pub returns-clause-reply : goal.returns-clause-reply
returns-clause-reply c = λ t was.
    let a = c.args.a in
    let b = c.args.b in
    let e : is_among a t ≡ true = sym (c.has.ensures t was.changes) ∙ c.if-not-has.false in
    let f : is_among b t ≡ false = sym (c.has-2.ensures t was.changes) ∙ c.if-has.false in
    let g : is_solid (moved_to a b t) ≡ false = sym (c.in_ok-stays_solid.ensures.solid t (moved_to a b t) was.anchors
    (λ q i. without_true a (with_point b t) q (in_with_old b q t i))
    (c.in_ok-take.ensures.taken (with_point b t) (c.in_ok-put.ensures.put t was.changes)))
    ∙ c.if-branch.false in
    rw (e, f, g) refl

pub returns-clause-set : goal.returns-clause-set
returns-clause-set c = λ t was.
    let s = c.args.set.now.keys in
    let a = c.args.a in
    let b = c.args.b in
    let to = moved_to a b t in
    let now = c.stays_solid.new.self in
    let taken = c.in_ok-take.ensures.taken (with_point b t) (c.in_ok-put.ensures.put t was.changes) in
    let e : is_among a t ≡ true = sym (c.has.ensures t was.changes) ∙ c.if-not-has.false in
    let f : is_among b t ≡ false = sym (c.has-2.ensures t was.changes) ∙ c.if-has.false in
    let g : is_solid (moved_to a b t) ≡ false = sym (c.in_ok-stays_solid.ensures.solid t to was.anchors
    (λ q i. without_true a (with_point b t) q (in_with_old b q t i)) taken)
    ∙ c.if-branch.false in
    rw (e, f, g) (stands s (without_point b (with_point a to)) t
    (record { changes = c.take-2.new.self; anchors = now.anchors; moving = now.moving })
    (moved_back a b t was.changes.now e f)
    (c.in_ok-take-2.ensures.taken (with_point a to) (c.in_ok-put-2.ensures.put to
    (subst (λ (x : Changes). AreChanges s to x) (sym c.in_ok-stays_solid.ensures.changes) taken)))
    (subst (λ (o : Option (List ℕ)). IfSome o (AreAnchors t))
    (sym (c.in_ok-stays_solid.ensures.kept c.if-branch.false)) was.anchors))
