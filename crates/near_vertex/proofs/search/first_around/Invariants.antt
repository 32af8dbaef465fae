use Rattle.cell_store.specs.Stars.{cells_around}
use Rattle.near_vertex.proofs.Around.{IsFirstSo}
use Rattle.near_vertex.proofs.search.first_around.Given as goal

abbrev pub invariant-loop-cell : goal.invariant-loop-cell
invariant-loop-cell l = IsFirstSo l.q l.fn.p (cells_around l.initial.cell-iterator) (cells_around l.cell-iterator)
    l.first
