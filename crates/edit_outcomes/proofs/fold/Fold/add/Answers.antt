use Rattle.point_order.proofs.Cited.{in_with_old}
use Rattle.point_order.specs.Sets.{with_point}
use Rattle.list_laws.proofs.Cited.{among_from}
use Rattle.edit_outcomes.proofs.Anchoring.{anchors_grow}
use Rattle.edit_outcomes.proofs.Changing.{with_there}
use Rattle.edit_outcomes.proofs.Folding.{stands, was_absent, was_there}
use Rattle.point_order.specs.Sets.{is_among}
use Rattle.std.proofs.Common.{refl}
use Rattle.edit_outcomes.proofs.fold.Fold.add.Goals as goal

pub returns-then-branch-clause-set : goal.returns-then-branch-clause-set
returns-then-branch-clause-set c = λ t was.
    let s = c.args.set.now.keys in
    let p = c.args.p in
    let old = c.args.self.now in
    let e = was_absent c.in_ok-put.field-0 (is_among p t) (c.in_ok-put.ensures.new t was.changes) c.if-branch.true in
    rw e (stands s (with_point p t) (with_point p t)
    (record { changes = c.put.new.self; anchors = old.anchors; moving = old.moving }) refl
    (c.in_ok-put.ensures.put t was.changes)
    (anchors_grow old.anchors t (with_point p t) was.anchors (λ q i. in_with_old p q t i)))

pub returns-clause-set : goal.returns-clause-set
returns-clause-set c = λ t was.
    let s = c.args.set.now.keys in
    let p = c.args.p in
    let old = c.args.self.now in
    let e = was_there c.in_ok-put.field-0 (is_among p t) (c.in_ok-put.ensures.new t was.changes) c.if-branch.false in
    rw e (stands s (with_point p t) t
    (record { changes = c.put.new.self; anchors = old.anchors; moving = old.moving })
    (with_there p t was.changes.now (among_from p t e)) (c.in_ok-put.ensures.put t was.changes) was.anchors)
