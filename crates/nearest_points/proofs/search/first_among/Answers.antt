use Rattle.std.proofs.Common.{◌≡◌, ℤ, ◌∷◌, ◌+◌, ◌∙◌, ap, sym, subst, take, w64, to_z, of_z, lit<}
use Rattle.whole_ring.specs.Bounds.{IsWithin}
use Rattle.whole_ring.proofs.Cited.{read, within_fits}
use Rattle.point_order.specs.Orientation.{distance}
use Rattle.point_order.specs.Sizes.{greatest_square}
use Rattle.nearest_points.specs.Points.{IsFirstOf}
use Rattle.nearest_points.proofs.Order.{one_first, one_later}
use Rattle.nearest_points.proofs.search.first_among.Goals.{then-comes_before, else-comes_before}
use Rattle.nearest_points.proofs.search.first_among.Goals as goal

-- a square of that size is read again as itself
again : {x : ℤ} → IsWithin greatest_square x → to_z w64 (of_z w64 x) ≡ x
again h = read (within_fits w64 h (lit< tt))

-- the point comes before all so far, or one of them before it
pub loop-x-preserved : goal.loop-x-preserved
loop-x-preserved c =
    let q = c.args.q in
    let i = c.loop-x.x-index in
    let l = c.args.points.now in
    let square = c.square_from-square.ensures in
    let test = c.comes_before.ensures q (again square.bound ∙ square.value) c.loop-x.invariant.1 in
    let k = c.loop-x.invariant.0 in
    elim c.if-comes_before.branch [
      | then-comes_before w ↦ (
        subst (IsFirstOf q (c.args.p ∷ take (i + 1) l)) (sym w.first-is)
            (one_first q c.args.p l i c.x-item.result c.loop-x.first c.loop-x-test.true c.x-item.is k
            (sym test ∙ w.if-comes_before.true)),
        w.least-is ∙ again square.bound ∙ square.value ∙ ap (distance q) (sym w.first-is),
        subst (IsWithin greatest_square) (sym (w.least-is ∙ again square.bound)) square.bound,
      )
      | else-comes_before w ↦ (
        subst (IsFirstOf q (c.args.p ∷ take (i + 1) l)) (sym w.first-is)
            (one_later q c.args.p l i c.x-item.result c.loop-x.first c.loop-x-test.true c.x-item.is k
            (sym test ∙ w.if-comes_before.false)),
        w.least-is ∙ c.loop-x.invariant.1 ∙ ap (distance q) (sym w.first-is),
        subst (IsWithin greatest_square) (sym w.least-is) c.loop-x.invariant.2,
      )
    ]
