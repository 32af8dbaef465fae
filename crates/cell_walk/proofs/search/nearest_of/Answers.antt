use Rattle.std.proofs.Common.{◌≡◌, ◌⊎◌, inr, subst, sym, ℕ}
use Rattle.list_laws.proofs.Cited.{at_place}
use Rattle.point_order.specs.Sets.{IsIn}
use Rattle.cell_walk.proofs.search.nearest_of.Goals as goal
use Rattle.cell_walk.proofs.search.nearest_of.Goals.{in-Some+then-square-least, in-Some+else-square-least, in_default}

pub loop-preserved : goal.loop-preserved
loop-preserved c =
    elim c.match-get.branch [
      | in-Some+then-square-least w ↦
          subst (λ (q : ℕ). (q ≡ c.args.so_far) ⊎ IsIn q c.args.points.now) (sym w.near-is)
          (inr (at_place c.args.points.now _ w.in-Some.q.now w.in-Some.q.now w.in-Some.ensures.lookup.3.0
          w.in-Some.ensures.lookup.1))
      | in-Some+else-square-least w ↦
          subst (λ (q : ℕ). (q ≡ c.args.so_far) ⊎ IsIn q c.args.points.now) (sym w.near-is) c.loop.invariant
      | in_default w ↦
          subst (λ (q : ℕ). (q ≡ c.args.so_far) ⊎ IsIn q c.args.points.now) (sym w.near-is) c.loop.invariant
    ]
