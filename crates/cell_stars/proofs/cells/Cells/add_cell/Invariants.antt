use Rattle.std.proofs.Common.{◌≡◌, take}
use Rattle.point_order.specs.Sets.{IsIn}
use Rattle.cell_stars.specs.Adding.{AddsPlaces}
use Rattle.cell_stars.proofs.cells.Cells.add_cell.Given as goal

abbrev pub invariant-loop-p : goal.invariant-loop-p
invariant-loop-p l = AddsPlaces (λ q j. IsIn q (take l.p-index l.p-items) × (l.i ≡ j)) l.fn.writes.items l.writes.items
