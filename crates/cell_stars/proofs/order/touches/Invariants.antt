use Rattle.std.proofs.Common.{◌≡◌, ◌==◌, false, take}
use Rattle.std.specs.List.{list_any}
use Rattle.bucket_grid.specs.Grids.{bucket_of}
use Rattle.cell_stars.proofs.order.touches.Given as goal

abbrev pub invariant-loop-p : goal.invariant-loop-p
invariant-loop-p l = list_any (λ p. bucket_of l.grid p == l.b) (take l.p-index l.p-items) ≡ false
