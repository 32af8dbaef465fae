use Rattle.std.proofs.Common.{◌∙◌, ◌++◌, ◌∷◌, [], arith, subst, List, ℕ}
use Rattle.cloud_cells.specs.Groups.{points_of_groups}
use Rattle.cell_slots.specs.Nets.{AreMoved}
use Rattle.cell_slots.proofs.Cited.{come_over}
use Rattle.cloud_cells.proofs.groups.deal_points.Goals as goal

pub number_in-g-requires : goal.number_in-g-requires
number_in-g-requires c =
    let b = c.requires in
    let d = c.loop-turn.invariant.2 in
    rw c.deref.ensures.value (omega (arith, b, d))

pub deal_point-requires : goal.deal_point-requires
deal_point-requires c = rw c.deref.ensures.value at c.number_in-g.ensures

pub loop-turn-preserved : goal.loop-turn-preserved
loop-turn-preserved c =
    let i = c.loop-turn.invariant in
    let all = points_of_groups c.args.groups.now.items ++ c.args.waiting.now.items in
    let now = points_of_groups c.loop-turn.groups.items in
    let d = c.in_ok-deal_point.ensures in (
      come_over all now (points_of_groups c.deal_point.new.groups.items) c.pop.new.self.items (c.in-Some.turn ∷ [])
          (subst (λ (v : List ℕ). AreMoved all (now ++ v)) c.in-Some.ensures.items i.0) d.points,
      d.cells ∙ i.1,
      d.len ∙ i.2,
    )
