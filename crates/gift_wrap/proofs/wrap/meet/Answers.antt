use Rattle.std.proofs.Common.{ap, subst, List, ◌∙◌}
use Rattle.std.proofs.lemmas.List.Sorted.{IsPermutation-swap_remove}
use Rattle.gift_wrap.specs.Wraps.{IsPlaceOf}
use Rattle.gift_wrap.specs.declared.wrap.Side.{Side}
use Rattle.gift_wrap.proofs.Meeting.{met_first, met_again}
use Rattle.gift_wrap.proofs.wrap.meet.Goals as goal

pub returns-in-Some : goal.returns-in-Some
returns-in-Some c =
    let old = c.args.sides.now.items in
    let k =
    subst (λ (l : List Side). IsPlaceOf l c.args.side.facet c.in-Some.i) c.deref.ensures.value c.in-Some.ensures in
    let r = c.swap_remove.result in
    met_again old c.swap_remove.new.self.items c.args.side.facet r
    (ap (λ (s : Side). s.facet) c.swap_remove.ensures.value ∙ k.at r)
    (rw c.swap_remove.ensures.items (IsPermutation-swap_remove old c.in-Some.i r k.below c.swap_remove.ensures.value))

pub returns-in_ok-push-in-None : goal.returns-in_ok-push-in-None
returns-in_ok-push-in-None c = rw c.in_ok-push-in-None.ensures.items (met_first c.args.sides.now.items c.args.side)
