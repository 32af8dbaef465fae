use Rattle.std.proofs.Common.{◌≡◌, take}
use Rattle.std.specs.Prelude.{count_by, is_some}
use Rattle.alpha_complex.specs.Slots.{cell_slots_of}
use Rattle.alpha_complex.proofs.shape.marked_count.Given as goal

abbrev pub invariant-loop-index : goal.invariant-loop-index
invariant-loop-index l = l.count ≡ count_by is_some (take l.index (cell_slots_of l.cells l.marks))
