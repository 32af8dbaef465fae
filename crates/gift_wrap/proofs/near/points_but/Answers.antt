use Rattle.std.proofs.Common.{rules, not, subst, List, ℕ, ◌==◌}
use Rattle.std.proofs.lemmas.Fn.{filter_same}
use Rattle.point_order.specs.Sets.{AreSamePoints}
use Rattle.gift_wrap.proofs.Points.{points_are, same_both}
use Rattle.gift_wrap.proofs.near.points_but.Goals as goal

pub returns : goal.returns
returns c =
    points_are c.args.cells.now c.args.v c.in_ok-points.points.items c.retain.new.self.items
    c.points_in_order.result.items c.in_ok-points.ensures
    (filter_same _ (λ p. not (p == c.args.v)) _ (λ x b f' k. search rules) _ _ c.retain.ensures.filtered)
    (same_both c.retain.new.self.items c.in_ok-fewer.fewer.items c.points_in_order.result.items
    (subst (λ (l : List ℕ). AreSamePoints l c.in_ok-fewer.fewer.items) c.deref.ensures.value c.in_ok-fewer.ensures)
    c.points_in_order.ensures.points) c.points_in_order.ensures.order
