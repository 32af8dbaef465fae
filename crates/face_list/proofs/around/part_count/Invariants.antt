-- the parts of the cells so far
use Rattle.std.proofs.Common.{◌≡◌, take, length}
use Rattle.face_list.specs.Gather.{items_from}
use Rattle.face_list.proofs.around.part_count.Given as goal

abbrev pub invariant-loop-cell : goal.invariant-loop-cell
invariant-loop-cell g l = l.count ≡ length (items_from 0 g.K.Part.parts_of (take l.cell-index l.cells))
