use Rattle.std.proofs.Common.{◌-◌}
use Rattle.face_list.proofs.beside.+add_beside+fn-add_beside-join+arg2+fn-add_beside-join+arg3.Given as goal

abbrev pub decreases-add_beside : goal.decreases-add_beside
decreases-add_beside g l = l.to - l.so_far.to

abbrev pub decreases-join+arg2 : goal.decreases-join+arg2
decreases-join+arg2 g l = l.middle - l.so_far.to

abbrev pub decreases-join+arg3 : goal.decreases-join+arg3
decreases-join+arg3 g l = l.to - l.part.to
