use Rattle.std.proofs.Common.{◌≡◌, None, get_or}
use Rattle.point_order.specs.Sets.{IsIn}
use Rattle.cell_stars.specs.Places.{at_slot}
use Rattle.cell_stars.proofs.MoveLaws.{likely_more}
use Rattle.cell_stars.proofs.vacant.likely_places.Goals as goal
use Rattle.cell_stars.proofs.vacant.likely_places.Goals.{then-is_open+in_ok-push, else-is_open}

pub loop-i-preserved : goal.loop-i-preserved
loop-i-preserved c =
    elim c.if-is_open.branch [
      | then-is_open+in_ok-push w ↦ rw w.list-is
          (likely_more (λ i. IsIn i c.args.freed.now) (λ i. at_slot c.args.slots.now i ≡ None) c.loop-i.list.items
          w.push.new.self.items (get_or c.args.free.now c.loop-i.i-index 0) (c.is_open.ensures.open w.if-is_open.true)
          w.in_ok-push.ensures.items c.loop-i.invariant)
      | else-is_open w ↦ rw w.list-is c.loop-i.invariant
    ]
