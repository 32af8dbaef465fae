use Rattle.std.proofs.Common.{subst}
use Rattle.point_order.specs.Sets.{IsIn}
use Rattle.edit_outcomes.proofs.anchors.staying.Goals as goal

pub returns : goal.returns
returns c = λ t are.
    c.in_ok-push_staying-2.ensures t are
    (c.in_ok-push_last.ensures t are
    (c.in_ok-push_staying.ensures t are (λ p i. absurd (subst (IsIn p) c.new-list.ensures.items i))))
