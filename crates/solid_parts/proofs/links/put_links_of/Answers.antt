use Rattle.std.proofs.Common.{◌≤◌, length, arith, ap, ◌∙◌}
use Rattle.solid_parts.proofs.Linking.{no_others, other_over, other_put, others_done}
use Rattle.solid_parts.proofs.links.put_links_of.Goals.{then-one-other+in_ok-push, else-one-other}
use Rattle.solid_parts.proofs.links.put_links_of.Goals as goal

pub loop-other-init : goal.loop-other-init
loop-other-init c = no_others c.args.leasts.now c.args.one c.args.links.now.items c.requires.below

-- the link to one more cell is put, or passed over
pub loop-other-preserved : goal.loop-other-preserved
loop-other-preserved c =
    let leasts = c.args.leasts.now in
    let others = c.args.others.now in
    let i = c.loop-other.other-index in
    elim c.if-one-other.branch [
      | then-one-other+in_ok-push w ↦
          other_put leasts c.args.one others i c.args.links.now.items c.loop-other.links.items _ w.between.result
          c.loop-other-test.true
          c.requires.one c.requires.others w.between.ensures (ap (λ v. v.items) w.links-is ∙ w.in_ok-push.ensures.items)
          c.loop-other.invariant
      | else-one-other w ↦
          other_over leasts c.args.one others i c.args.links.now.items c.loop-other.links.items _ c.loop-other-test.true
          w.if-one-other.false (ap (λ v. v.items) w.links-is) c.loop-other.invariant
    ]

pub returns-clause-keeps : goal.returns-clause-keeps
returns-clause-keeps c = c.loop-other.invariant.keeps

pub returns-clause-has : goal.returns-clause-has
returns-clause-has c =
    let past : length c.args.others.now ≤ c.loop-other.other-index = omega (arith, c.loop-other-test.false) in
    (others_done c.args.leasts.now c.args.one c.args.others.now c.loop-other.other-index c.args.links.now.items
    c.loop-other.links.items
    past c.loop-other.invariant).has

pub returns-clause-below : goal.returns-clause-below
returns-clause-below c = c.loop-other.invariant.below
