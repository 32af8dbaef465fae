use Rattle.std.proofs.Common.{ap, subst, List, ◌++◌, length, arith}
use Rattle.point_order.specs.declared.cell.Cell.{Cell}
use Rattle.cell_slots.specs.Nets.{AreMoved, AreWithAll, cells_of_slots}
use Rattle.cell_slots.specs.Stars.{HaveRoom}
use Rattle.net_owner.proofs.linked.closed.Goals as goal

-- the slots of those that were taken out are free still
pub give_back-requires : goal.give_back-requires
give_back-requires c =
    let e = c.in-Err.ensures in
    let n = ap length e.cells in
    let room = c.requires.room in
    let among = c.requires.among in
    let less = e.less in
    let h : HaveRoom c.made_ready.new.net (length c.args.star.now.gone.items) = omega (arith, n, room, among, less) in
    rw c.deref-in-Err.ensures.value h

pub returns-in-Ok-clause-filled : goal.returns-in-Ok-clause-filled
returns-in-Ok-clause-filled c =
    subst (λ (l : List Cell). AreWithAll l c.args.cells.now (cells_of_slots c.fill.new.net)) c.in-Ok.ensures.cells
    c.fill.ensures.cells

pub returns-in-Err-clause-refused : goal.returns-in-Err-clause-refused
returns-in-Err-clause-refused c =
    let now = cells_of_slots c.give_back.new.net in
    let gone = c.args.star.now.gone.items in
    subst (λ (l : List Cell). AreMoved (l ++ gone) now) c.in-Err.ensures.cells
    (subst (λ (g : List Cell). AreMoved (cells_of_slots c.made_ready.new.net ++ g) now) c.deref-in-Err.ensures.value
    c.give_back.ensures.cells)

pub returns-in-Ok-clause-room : goal.returns-in-Ok-clause-room
returns-in-Ok-clause-room c =
    let e = c.in-Ok.ensures in
    let n = ap length e.cells in
    let less = e.less in
    let ready = e.room in
    let count = c.fill.ensures.count in
    let size = c.fill.ensures.size in
    let room = c.requires.room in
    omega (arith, n, less, ready, count, size, room)

pub returns-in-Err-clause-room_back : goal.returns-in-Err-clause-room_back
returns-in-Err-clause-room_back c =
    let e = c.in-Err.ensures in
    let n = ap length e.cells in
    let less = e.less in
    let count = c.give_back.ensures.count in
    let size = c.give_back.ensures.size in
    let room = c.requires.room in
    let among = c.requires.among in
    let all = ap length c.deref-in-Err.ensures.value in
    omega (arith, n, less, count, size, room, among, all)
