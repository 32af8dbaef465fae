-- the keys are those of the Full cells' items so far
use Rattle.std.proofs.Common.{take}
use Rattle.std.specs.Prelude.{◌↔◌}
use Rattle.std.specs.List.Sorted.{IsStrictlySortedBy}
use Rattle.point_order.specs.Sets.{IsIn}
use Rattle.face_list.specs.Gather.{full_keys}
use Rattle.face_list.proofs.gather.keys_of_full.Given as goal

abbrev pub invariant-loop-key : goal.invariant-loop-key
invariant-loop-key g l = record {
  order : IsStrictlySortedBy g.K.Ord.cmp l.keys.items;
  keys : (k : g.row.K.Denot) → IsIn k l.keys.items ↔ IsIn k (full_keys l.cells (take l.key-index l.items));
}
