use Rattle.std.proofs.Common.{ap, sym, subst, List, ◌++◌, length, map, arith}
use Rattle.point_order.specs.declared.cell.Cell.{Cell}
use Rattle.point_order.specs.declared.cell.Facet.{Facet}
use Rattle.hole_laws.specs.Lists.{cell_over}
use Rattle.cell_slots.specs.Marked.{ArePicked}
use Rattle.cell_slots.specs.Nets.{AreMoved, AreWithAll, cells_of_slots}
use Rattle.cell_slots.proofs.Cited.{moved_few}
use Rattle.net_digs.proofs.arrive.filled_hole.Goals as goal

pub take_all-requires : goal.take_all-requires
take_all-requires c =
    rw c.deref.ensures.value (subst (λ (l : List Cell). ArePicked l c.args.hole.now.gone.items)
    (sym c.in_ok-make_room-2.ensures.cells) c.requires.picked)

pub fill_over-requires-clause-apart : goal.fill_over-requires-clause-apart
fill_over-requires-clause-apart c = rw c.deref-3.ensures.value c.requires.apart

pub fill_over-requires-clause-room : goal.fill_over-requires-clause-room
fill_over-requires-clause-room c =
    let gone = c.args.hole.now.gone.items in
    let old = cells_of_slots c.args.net.now in
    let rest = cells_of_slots c.take_all.new.net in
    let moved : AreMoved old (rest ++ gone) = subst (λ (l : List Cell). AreMoved l (rest ++ gone))
    c.in_ok-make_room-2.ensures.cells (rw c.deref.ensures.value at c.take_all.ensures.cells) in
    let few = moved_few old rest gone c.requires.once moved in
    let size = c.take_all.ensures.size in
    let more = c.in_ok-make_room-2.ensures.size in
    let room = c.requires.room in
    let all = ap length c.deref-3.ensures.value in
    omega (arith, few, size, more, room, all)

pub returns-clause-filled : goal.returns-clause-filled
returns-clause-filled c =
    let gone = c.args.hole.now.gone.items in
    let old = cells_of_slots c.args.net.now in
    let rest = cells_of_slots c.take_all.new.net in
    record {
      rest = rest;
      taken = subst (λ (l : List Cell). AreMoved l (rest ++ gone)) c.in_ok-make_room-2.ensures.cells
          (rw c.deref.ensures.value at c.take_all.ensures.cells);
      filled = subst (λ (l : List Facet). AreWithAll rest (map (λ f. cell_over f c.args.p) l)
          (cells_of_slots c.fill_over.new.net)) c.deref-3.ensures.value c.fill_over.ensures.cells;
    }

pub returns-clause-room : goal.returns-clause-room
returns-clause-room c =
    let gone = c.args.hole.now.gone.items in
    let old = cells_of_slots c.args.net.now in
    let rest = cells_of_slots c.take_all.new.net in
    let moved : AreMoved old (rest ++ gone) = subst (λ (l : List Cell). AreMoved l (rest ++ gone))
    c.in_ok-make_room-2.ensures.cells (rw c.deref.ensures.value at c.take_all.ensures.cells) in
    let few = moved_few old rest gone c.requires.once moved in
    let size = c.take_all.ensures.size in
    let more = c.in_ok-make_room-2.ensures.size in
    let room = c.requires.room in
    let count = c.fill_over.ensures.count in
    let same = c.fill_over.ensures.size in
    let all = ap length c.deref-3.ensures.value in
    omega (arith, few, size, more, room, count, same, all)
