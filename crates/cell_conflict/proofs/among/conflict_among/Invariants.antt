use Rattle.std.proofs.Common.{List, ℕ, ◌⊎◌}
use Rattle.cell_store.specs.Stars.{cells_to_come}
use Rattle.point_order.specs.declared.cell.Cell.{Cell}
use Rattle.point_order.specs.Sets.{IsIn}
use Rattle.hole_laws.specs.Edits.{IsNew, GoesFrom}
use Rattle.cell_store.specs.Buckets.{cells_in}
use Rattle.cell_store.specs.Shares.{Shows}
use Rattle.cell_conflict.proofs.among.conflict_among.Given as goal

abbrev pub invariant-loop-cell : goal.invariant-loop-cell
invariant-loop-cell l =
    ((c : Cell) → IsIn c (cells_to_come l.cell-iterator) → IsIn c (cells_in l.fn.hold.places l.fn.b)) ×
    ((c : Cell) → IsIn c (cells_in l.fn.hold.places l.fn.b) → IsIn c (cells_to_come l.cell-iterator)
    ⊎ ((s : List ℕ) → Shows l.fn.hold s → IsNew s l.fn.p → GoesFrom s l.fn.p c → ⊥))
