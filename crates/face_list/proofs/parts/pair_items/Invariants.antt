-- the numbers of the cells so far stand under their parts
use Rattle.std.proofs.Common.{◌≡◌, take}
use Rattle.point_order.specs.Facets.{points_of}
use Rattle.point_order.specs.Subsets.{subsets}
use Rattle.face_list.specs.Gather.{items_from}
use Rattle.face_list.proofs.parts.pair_items.Given as goal

abbrev pub invariant-loop-number : goal.invariant-loop-number
invariant-loop-number l = l.items.items ≡ items_from 0 (λ c. subsets 2 (points_of c)) (take l.number l.cells)
