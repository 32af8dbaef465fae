use Rattle.std.proofs.Common.{◌++◌, length}
use Rattle.cell_slots.specs.Nets.{AreMoved, cells_of_slots}
use Rattle.cell_slots.specs.Pages.{slots_of}
use Rattle.cell_slots.proofs.slots.move_pages.Given as goal

abbrev pub invariant-loop-page : goal.invariant-loop-page
invariant-loop-page l =
    AreMoved (cells_of_slots (slots_of l.initial.pages.items) ++ cells_of_slots l.initial.packed.items)
    (cells_of_slots (slots_of l.pages.items) ++ cells_of_slots l.packed.items)

abbrev pub decreases-loop-page : goal.decreases-loop-page
decreases-loop-page l = length l.pages.items
