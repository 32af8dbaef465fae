-- the numbers of the cells so far stand under their points, which ascend in each of them
use Rattle.std.proofs.Common.{◌≡◌, take}
use Rattle.point_order.specs.Facets.{points_of}
use Rattle.face_list.specs.Gather.{items_from, AreAscending}
use Rattle.face_list.proofs.parts.point_items.Given as goal

abbrev pub invariant-loop-number : goal.invariant-loop-number
invariant-loop-number l = record {
  items : l.items.items ≡ items_from 0 points_of (take l.number l.cells);
  ascending : AreAscending (take l.number l.cells);
}
