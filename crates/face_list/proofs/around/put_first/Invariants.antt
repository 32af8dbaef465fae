-- what was put behind the old items are parts that begin with the point
use Rattle.face_list.specs.Around.{ArePartsPut}
use Rattle.face_list.proofs.around.put_first.Given as goal

abbrev pub invariant-loop-part : goal.invariant-loop-part
invariant-loop-part g l = ArePartsPut l.parts g.K.First.first_of l.number l.first l.fn.items.items l.items.items
