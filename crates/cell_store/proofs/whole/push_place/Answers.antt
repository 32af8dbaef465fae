use Rattle.std.proofs.Common.{◌∙◌, ◌+◌, ap, sym, subst}
use Rattle.cell_store.specs.Wholes.{IsPushedWhere}
use Rattle.cell_store.proofs.WholeLaws.{first_touch, lists_in, touch_again, touch_all, touch_new, touch_none}
use Rattle.cell_store.proofs.whole.push_place.Goals.{then-not-has_here+in_ok-push_at, else-not-has_here}
use Rattle.cell_store.proofs.whole.push_place.Goals as goal

pub loop-k-init : goal.loop-k-init
loop-k-init c = touch_none c.args.grid c.points-points.result.now c.args.place (lists_in c.args.lists.now.items)

-- one point more: the place stands in its bucket's list already, or comes last there
pub loop-k-preserved : goal.loop-k-preserved
loop-k-preserved c =
    let g = c.args.grid in
    let ps = c.points-points.result.now in
    let k = c.loop-k.k in
    let x = c.index-points-k.result in
    let b = c.bucket_of-b.result in
    let place = c.args.place in
    let old = lists_in c.args.lists.now.items in
    let mid = lists_in c.loop-k.lists.items in
    elim c.if-not-has_here.branch [
      | then-not-has_here+in_ok-push_at w ↦ subst (λ l. IsPushedWhere (first_touch g ps (k + 1)) place old (lists_in l))
          (sym (ap (λ v. v.items) w.lists-is))
          (touch_new g ps k x b place old mid (lists_in w.push_at.new.lists.items) c.loop-k-test.true
          c.index-points-k.is c.bucket_of-b.ensures.number
          (sym c.has_here.ensures ∙ w.if-not-has_here.true) c.loop-k.invariant w.in_ok-push_at.ensures)
      | else-not-has_here w ↦ subst (λ l. IsPushedWhere (first_touch g ps (k + 1)) place old (lists_in l))
          (sym (ap (λ v. v.items) w.lists-is))
          (touch_again g ps k x place old mid c.loop-k-test.true c.index-points-k.is
          (ap (first_touch g ps k) (sym c.bucket_of-b.ensures.number) ∙ sym c.has_here.ensures
          ∙ w.if-not-has_here.false) c.loop-k.invariant)
    ]

pub returns : goal.returns
returns c =
    touch_all c.args.grid c.args.cell.now c.points-points.result.now c.loop-k.k c.args.place
    (lists_in c.args.lists.now.items)
    (lists_in c.loop-k.lists.items) c.points-points.ensures.points c.loop-k-test.false c.loop-k.invariant
