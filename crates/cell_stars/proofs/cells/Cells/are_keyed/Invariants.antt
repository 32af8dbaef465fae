use Rattle.std.proofs.Common.{ℕ, List, take}
use Rattle.point_order.specs.Sets.{IsIn}
use Rattle.cell_stars.specs.Places.{part_of}
use Rattle.cell_stars.specs.Moves.{IsKeyed}
use Rattle.cell_stars.proofs.cells.Cells.are_keyed.Given as goal

abbrev pub invariant-loop-n : goal.invariant-loop-n
invariant-loop-n l = (x : ℕ × (ℕ × List ℕ)) → IsIn x (take l.n-index l.writes) →
    IsKeyed (part_of l.self.keys x.1.0) x.0 x.1
