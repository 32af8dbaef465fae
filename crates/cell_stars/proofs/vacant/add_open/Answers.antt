use Rattle.std.proofs.Common.{◌≡◌, ℕ, None, arith}
use Rattle.cell_stars.specs.Places.{at_slot}
use Rattle.cell_stars.proofs.MoveLaws.{open_more, open_same}
use Rattle.cell_stars.proofs.vacant.add_open.Goals as goal
use Rattle.cell_stars.proofs.vacant.add_open.Goals.{then-is_open+in_ok-push, else-is_open}

pub loop-list-preserved : goal.loop-list-preserved
loop-list-preserved c =
    let P : ℕ → Type 0 = λ i. at_slot c.args.slots.now i ≡ None in
    let old = c.args.list.now.items in
    elim c.if-is_open.branch [
      | then-is_open+in_ok-push w ↦ rw w.list-is
          (open_more P old c.loop-list.list.items w.push.new.self.items c.args.count c.loop-list.next c.in_ok-next.next
          (omega (arith, c.loop-list-test.true, c.len.ensures)) (c.is_open.ensures.open w.if-is_open.true)
          w.in_ok-push.ensures.items c.in_ok-next.ensures.next c.loop-list.invariant)
      | else-is_open w ↦ rw w.list-is (open_same P old c.loop-list.list.items c.args.count c.loop-list.next
          c.in_ok-next.next c.in_ok-next.ensures.next c.loop-list.invariant)
    ]
