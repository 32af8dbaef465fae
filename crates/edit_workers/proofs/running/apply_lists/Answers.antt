use Rattle.std.proofs.Common.{length, arith, ap}
use Rattle.edit_workers.proofs.Segments.{room_for}
use Rattle.edit_workers.proofs.running.apply_lists.Goals as goal

pub apply_all-requires : goal.apply_all-requires
apply_all-requires c =
    let room = room_for c.args.lists.now c.loop-list.list-index c.list-item.result c.args.mesh.now.history
    c.loop-list.mesh.history 4294967296 c.loop-list-test.true c.list-item.is c.loop-list.invariant.applied
    c.requires.room in
    record { room = omega (arith, room, ap length c.deref.ensures.value) }
