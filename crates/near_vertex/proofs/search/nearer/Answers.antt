use Rattle.std.proofs.Common.{subst, sym, ℕ}
use Rattle.list_laws.proofs.Cited.{at_place}
use Rattle.point_order.specs.Sets.{IsIn}
use Rattle.near_vertex.proofs.search.nearer.Goals.{then-square-least, else-square-least}
use Rattle.near_vertex.proofs.search.nearer.Goals as goal

pub loop-look-preserved : goal.loop-look-preserved
loop-look-preserved c = elim c.if-square-least.branch [
  | then-square-least w ↦ subst (λ (q : ℕ). IsIn q c.args.points.now) (sym w.near-is)
      (at_place c.args.points.now _ c.in-Some.p.now c.in-Some.p.now c.in-Some.ensures.lookup.3.0
      c.in-Some.ensures.lookup.1)
  | else-square-least w ↦ subst (λ (q : ℕ). IsIn q c.args.points.now) (sym w.near-is) c.loop-look.invariant
]
