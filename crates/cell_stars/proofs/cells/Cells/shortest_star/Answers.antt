use Rattle.std.proofs.Common.{subst}
use Rattle.std.specs.Prelude.{ℕ, List}
use Rattle.list_laws.proofs.Cited.{at_place}
use Rattle.point_order.specs.Sets.{IsIn}
use Rattle.cell_stars.proofs.MoveLaws.{shorter_is, star_for, vertex_passed}
use Rattle.cell_stars.proofs.cells.Cells.shortest_star.Goals as goal
use Rattle.cell_stars.proofs.cells.Cells.shortest_star.Goals.{then-has_here+else-star-le-FEW, else-has_here}

pub loop-p-preserved : goal.loop-p-preserved
loop-p-preserved c =
    let b = c.args.self.now in
    let cell = c.args.cell.now in
    let ps = c.points-p-items.result.now in
    let p = c.p-item.result in
    elim c.if-has_here.branch [
      | then-has_here+else-star-le-FEW w ↦ rw w.shortest-is
          (shorter_is (λ s. s.now) b cell _ c.loop-p.shortest w.star_of.result.now w.shorter-star.result.now
          c.loop-p.invariant
          (star_for b cell p w.star_of.result.now c.has_here.result
          (subst (λ (l : List ℕ). IsIn p l) c.points-p-items.ensures.points
          (at_place ps c.loop-p.p-index p p c.loop-p-test.true c.p-item.is)) c.has_here.ensures w.if-has_here.true
          w.star_of.ensures.places) w.shorter-star.ensures)
      | else-has_here w ↦ rw w.shortest-is (vertex_passed (λ s. s.now) b cell ps c.loop-p.p-index p p c.loop-p.shortest
          c.has_here.result c.loop-p-test.true c.p-item.is c.has_here.ensures w.if-has_here.false c.loop-p.invariant)
    ]

pub returns-then-star-le-FEW : goal.returns-then-star-le-FEW
returns-then-star-le-FEW c =
    let b = c.args.self.now in
    let cell = c.args.cell.now in
    let p = c.p-item.result in
    shorter_is (λ s. s.now) b cell _ c.loop-p.shortest c.star_of.result.now c.shorter-star.result.now c.loop-p.invariant
    (star_for b cell p c.star_of.result.now c.has_here.result
    (subst (λ (l : List ℕ). IsIn p l) c.points-p-items.ensures.points
    (at_place c.points-p-items.result.now c.loop-p.p-index p p c.loop-p-test.true c.p-item.is)) c.has_here.ensures
    c.if-has_here.true c.star_of.ensures.places) c.shorter-star.ensures
