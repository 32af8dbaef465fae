use Rattle.std.proofs.Common.{subst, sym}
use Rattle.point_order.specs.Sets.{IsIn}
use Rattle.edit_outcomes.specs.Folding.{AreAnchors}
use Rattle.edit_outcomes.proofs.Anchoring.{all_found, anchors_of}
use Rattle.edit_outcomes.proofs.anchors.find_anchors.Goals as goal

pub returns-in-Some : goal.returns-in-Some
returns-in-Some c = λ t are.
    let f : AreAnchors c.deref.result.now c.in-Some.four = c.in-Some.ensures in
    anchors_of c.deref.result.now t c.in-Some.four f
    (λ q i. c.in_ok-few.ensures t are q (subst (IsIn q) c.deref.ensures.value (f.of_set q i)))

pub returns : goal.returns
returns c = λ t are.
    let all = c.in_ok-all.ensures t are in
    all_found c.solidity_is_of_the_set.ensures c.four_of-2.result c.deref-2.result.now t are.now
    (λ q i. all.0 q (subst (IsIn q) c.deref-2.ensures.value i))
    (λ q i. subst (IsIn q) (sym c.deref-2.ensures.value) (all.1 q i)) c.four_of-2.ensures
