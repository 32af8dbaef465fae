-- the number stands under the parts so far
use Rattle.std.proofs.Common.{◌≡◌, ◌++◌, map, take}
use Rattle.face_list.proofs.parts.put.Given as goal

abbrev pub invariant-loop-part : goal.invariant-loop-part
invariant-loop-part g l = l.items.items ≡ l.fn.items.items ++ map (λ p. (p, l.number)) (take l.part-index l.parts)
