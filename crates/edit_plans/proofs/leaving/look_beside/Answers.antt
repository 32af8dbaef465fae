use Rattle.edit_plans.proofs.Moved.{found_beside, lands_enters, left_same, mid_entered, mid_leaves, way_back}
use Rattle.edit_plans.proofs.leaving.look_beside.Goals as goal

pub enter-requires-clause-room : goal.enter-requires-clause-room
enter-requires-clause-room c = rw (c.deref.ensures.value, c.deref-2.ensures.value) c.requires.way

pub enter-requires-clause-enters : goal.enter-requires-clause-enters
enter-requires-clause-enters c =
    let k = c.requires.shown in
    rw (c.deref.ensures.value, c.deref-2.ensures.value)
    (k.0, lands_enters c.args.hold.now k.0 c.args.landed.now k.2 k.1)

pub refill_at-found-requires : goal.refill_at-found-requires
refill_at-found-requires c =
    let e = rw (c.deref.ensures.value, c.deref-2.ensures.value) at c.enter.ensures.entered in
    mid_leaves c.args.hold.now c.enter.new.self c.args.landed.now e c.requires.shown

pub leave-requires-clause-room : goal.leave-requires-clause-room
leave-requires-clause-room c =
    let e = rw (c.deref.ensures.value, c.deref-2.ensures.value) at c.enter.ensures.entered in
    let room = rw (c.deref.ensures.value, c.deref-2.ensures.value) at c.enter.ensures.room in
    rw (c.deref-3.ensures.value, c.deref-4.ensures.value)
    (way_back c.args.hold.now c.enter.new.self c.args.landed.now e c.requires.way room)

pub leave-requires-clause-entered : goal.leave-requires-clause-entered
leave-requires-clause-entered c =
    let e = rw (c.deref.ensures.value, c.deref-2.ensures.value) at c.enter.ensures.entered in
    rw (c.deref-3.ensures.value, c.deref-4.ensures.value)
    (mid_entered c.args.hold.now c.enter.new.self c.args.landed.now e c.requires.shown)

pub returns-clause-same : goal.returns-clause-same
returns-clause-same c =
    let e = rw (c.deref.ensures.value, c.deref-2.ensures.value) at c.enter.ensures.entered in
    let room = rw (c.deref.ensures.value, c.deref-2.ensures.value) at c.enter.ensures.room in
    let left = rw (c.deref-3.ensures.value, c.deref-4.ensures.value) at c.leave.ensures.left in
    let back = rw (c.deref-3.ensures.value, c.deref-4.ensures.value) at c.leave.ensures.room in
    left_same c.args.hold.now c.enter.new.self c.args.landed.now e c.leave.new.self c.requires.shown c.requires.way
    room left back

pub returns-clause-found : goal.returns-clause-found
returns-clause-found c =
    let e = rw (c.deref.ensures.value, c.deref-2.ensures.value) at c.enter.ensures.entered in
    found_beside c.args.hold.now c.enter.new.self c.args.landed.now e c.refill_at-found.result
    c.refill_at-found.ensures
