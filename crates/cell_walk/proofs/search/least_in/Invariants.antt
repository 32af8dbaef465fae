use Rattle.cell_store.specs.Buckets.{cells_in}
use Rattle.cell_store.specs.Stars.{cells_to_come}
use Rattle.cell_walk.proofs.Searching.{IsPartly}
use Rattle.cell_walk.proofs.search.least_in.Given as goal

abbrev pub invariant-loop-cell : goal.invariant-loop-cell
invariant-loop-cell l =
    IsPartly l.fn.hold l.fn.inside (cells_in l.fn.hold.places l.fn.b) (cells_to_come l.cell-iterator) l.fn.least l.best
