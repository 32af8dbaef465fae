use Rattle.std.proofs.Common.{ap, length, subst, List, ℕ, ◌∷◌}
use Rattle.cell_store.specs.Stars.{cells_around}
use Rattle.nearest_points.specs.Points.{IsFirstOf}
use Rattle.near_vertex.proofs.Around.{one_more, first_of_all}
use Rattle.cell_conflict.proofs.Cited.{none_in}
use Rattle.near_vertex.proofs.search.first_around.Goals as goal

pub loop-cell-preserved : goal.loop-cell-preserved
loop-cell-preserved c =
    one_more c.args.q c.args.p (cells_around c.into_iter-cell-iterator.result) (cells_around c.loop-cell.cell-iterator)
    (cells_around c.next.new.self) c.in-Some.cell.now c.loop-cell.first c.first_among-first.result
    c.in-Some.ensures.steps c.loop-cell.invariant
    (subst (λ (l : List ℕ). IsFirstOf c.args.q (c.loop-cell.first ∷ l) c.first_among-first.result)
    c.points.ensures.points c.first_among-first.ensures)

pub returns : goal.returns
returns c s st m =
    first_of_all s c.args.q c.args.p (cells_around c.into_iter-cell-iterator.result)
    (cells_around c.loop-cell.cell-iterator) c.loop-cell.first c.args.hold.now st m
    (rw c.into_iter-cell-iterator.ensures.into_iter_gives (c.cells_around-cell-items.ensures.in_complex s st))
    (λ d i. none_in (cells_around c.loop-cell.cell-iterator) d (ap length c.in-None.ensures.steps.0) i)
    c.loop-cell.invariant
