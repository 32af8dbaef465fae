use Rattle.std.proofs.Common.{◌≡◌, ◌+◌, ◌-◌, length, None}
use Rattle.cell_stars.specs.Places.{at_slot}
use Rattle.cell_stars.proofs.MoveLaws.{OpenSoFar}
use Rattle.cell_stars.proofs.vacant.add_open.Given as goal

abbrev pub invariant-loop-list : goal.invariant-loop-list
invariant-loop-list l = OpenSoFar (λ i. at_slot l.slots i ≡ None) l.fn.list.items l.list.items l.count l.next

abbrev pub decreases-loop-list : goal.decreases-loop-list
decreases-loop-list l = (l.count - length l.list.items) + (length l.slots - l.next)
