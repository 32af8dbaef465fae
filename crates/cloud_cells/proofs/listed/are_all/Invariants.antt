-- the cells in the slots so far are listed, and this many, no more than the slots
use Rattle.std.proofs.Common.{◌≤◌, ◌++◌, take}
use Rattle.std.specs.Prelude.{map}
use Rattle.point_order.specs.declared.cell.Cell.TheVariants.{Full, Open}
use Rattle.cloud_cells.proofs.Found.{AreFound}
use Rattle.cloud_cells.proofs.listed.are_all.Given as goal

abbrev pub invariant-loop-slot : goal.invariant-loop-slot
invariant-loop-slot l =
    AreFound (map Full l.cells ++ map Open l.hull) (take l.slot-index l.slots) l.count × (l.count ≤ l.slot-index)
