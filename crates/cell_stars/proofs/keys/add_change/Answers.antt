use Rattle.std.proofs.Common.{ap, ◌∙◌, ◌%◌, ℕ, length}
use Rattle.cell_stars.specs.Places.{part_at}
use Rattle.cell_stars.specs.Plans.{set_all}
use Rattle.cell_stars.proofs.PartLaws.{change_more}
use Rattle.cell_stars.proofs.keys.add_change.Goals as goal

pub returns-clause-below : goal.returns-clause-below
returns-clause-below c = (change_more c.args.base.now c.args.changes.now.items c.push.new.self.items c.in_ok-at.at
    c.number_for-number.result c.args.n c.args.around.now c.part_after.result.now c.in_ok-part.part
    c.in_ok-push.ensures.items c.in_ok-at.ensures.value
    (c.number_for-number.ensures.number ∙ ap (λ (p : ℕ). p % length c.args.base.now) c.vertex.ensures)
    c.number_for-number.ensures.below c.requires.below c.requires.filed
    (c.part_after.ensures ∙ ap (λ v. part_at (set_all v c.args.base.now) c.number_for-number.result)
    c.deref.ensures.value) c.in_ok-part.ensures.order c.in_ok-part.ensures.keys).0

pub returns-clause-filed : goal.returns-clause-filed
returns-clause-filed c = (change_more c.args.base.now c.args.changes.now.items c.push.new.self.items c.in_ok-at.at
    c.number_for-number.result c.args.n c.args.around.now c.part_after.result.now c.in_ok-part.part
    c.in_ok-push.ensures.items c.in_ok-at.ensures.value
    (c.number_for-number.ensures.number ∙ ap (λ (p : ℕ). p % length c.args.base.now) c.vertex.ensures)
    c.number_for-number.ensures.below c.requires.below c.requires.filed
    (c.part_after.ensures ∙ ap (λ v. part_at (set_all v c.args.base.now) c.number_for-number.result)
    c.deref.ensures.value) c.in_ok-part.ensures.order c.in_ok-part.ensures.keys).1

pub returns-clause-keys : goal.returns-clause-keys
returns-clause-keys c = (change_more c.args.base.now c.args.changes.now.items c.push.new.self.items c.in_ok-at.at
    c.number_for-number.result c.args.n c.args.around.now c.part_after.result.now c.in_ok-part.part
    c.in_ok-push.ensures.items c.in_ok-at.ensures.value
    (c.number_for-number.ensures.number ∙ ap (λ (p : ℕ). p % length c.args.base.now) c.vertex.ensures)
    c.number_for-number.ensures.below c.requires.below c.requires.filed
    (c.part_after.ensures ∙ ap (λ v. part_at (set_all v c.args.base.now) c.number_for-number.result)
    c.deref.ensures.value) c.in_ok-part.ensures.order c.in_ok-part.ensures.keys).2
