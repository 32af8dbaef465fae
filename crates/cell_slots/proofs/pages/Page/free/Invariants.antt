use Rattle.std.proofs.Common.{◌≡◌, [], length}
use Rattle.cell_slots.specs.Nets.{cells_of_slots}
use Rattle.cell_slots.proofs.pages.Page.free.Given as goal

abbrev pub invariant-loop : goal.invariant-loop
invariant-loop l = (cells_of_slots l.slots.items ≡ []) × (length l.slots.items ≡ l.counter)
