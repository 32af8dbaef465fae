use Rattle.cell_slots.specs.Nets.{cells_of_slots}
use Rattle.cell_slots.proofs.Cited.{moved_cells}
use Rattle.cloud_cells.proofs.made.Made.of_points.Goals as goal

pub invariant_of-result : goal.invariant_of-result
invariant_of-result c =
    rw c.in_ok-from_slice.ensures.items (record {
      ascending = c.requires.ascending;
      solid = c.requires.solid;
      cells = moved_cells c.args.points.now (cells_of_slots c.in_ok-net_of_points.field-0)
          (cells_of_slots c.in_ok-packed.packed.items)
          c.in_ok-packed.ensures c.in_ok-net_of_points.ensures;
    })
