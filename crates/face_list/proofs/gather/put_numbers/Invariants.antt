use Rattle.std.proofs.Common.{length}
use Rattle.face_list.proofs.Putting.{IsPut}
use Rattle.face_list.proofs.gather.put_numbers.Given as goal

abbrev pub invariant-loop-first : goal.invariant-loop-first
invariant-loop-first g l = IsPut g.K.Ord.cmp l.fn.numbers.items l.numbers.items l.items l.rest l.key

abbrev pub decreases-loop-first : goal.decreases-loop-first
decreases-loop-first g l = length l.rest
