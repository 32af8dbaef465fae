use Rattle.std.proofs.Common.{ap, subst, List, ◌++◌, length, map, arith}
use Rattle.std.proofs.lemmas.List.{length-map}
use Rattle.point_order.specs.declared.cell.Cell.{Cell}
use Rattle.point_order.specs.declared.cell.Facet.{Facet}
use Rattle.point_order.specs.Sets.{with_point}
use Rattle.hole_laws.specs.Lists.{cell_over}
use Rattle.cell_slots.specs.Nets.{AreMoved, cells_of_slots}
use Rattle.cell_slots.specs.Stars.{HaveRoom}
use Rattle.net_digs.proofs.Arrivals.{back_again}
use Rattle.cell_slots.proofs.Cited.{moved_cells, moved_few}
use Rattle.net_digs.proofs.arrive.taken_back.Goals as goal

pub clear_over-requires-clause-apart : goal.clear_over-requires-clause-apart
clear_over-requires-clause-apart c = rw c.deref.ensures.value c.requires.apart

pub clear_over-requires-clause-listed : goal.clear_over-requires-clause-listed
clear_over-requires-clause-listed c =
    let r = c.requires.arrived in
    rw c.deref.ensures.value (λ q i. (r.2.members q).1 (r.1.filled.came q i).0)

pub clear_over-requires-clause-once : goal.clear_over-requires-clause-once
clear_over-requires-clause-once c = rw c.deref.ensures.value c.requires.arrived.1.filled.fresh_once

-- the slots of the cells that came are free
pub give_back-requires : goal.give_back-requires
give_back-requires c =
    let old = cells_of_slots c.args.net.now in
    let rest = cells_of_slots c.clear_over.new.net in
    let rim = c.args.hole.now.rim.items in
    let over : Facet → Cell = λ f. cell_over f c.args.p in
    let moved = rw c.deref.ensures.value at c.clear_over.ensures.cells in
    let few = moved_few old rest (map over rim) c.requires.arrived.2.once moved in
    let n = length-map rim over in
    let room = c.requires.room in
    let size = c.clear_over.ensures.size in
    let h : HaveRoom c.clear_over.new.net (length c.args.hole.now.gone.items) =
    omega (arith, few, n, room, size) in
    rw c.deref-2.ensures.value h

pub returns-clause-cells : goal.returns-clause-cells
returns-clause-cells c s h k =
    let old = cells_of_slots c.args.net.now in
    let rest = cells_of_slots c.clear_over.new.net in
    let now = cells_of_slots c.give_back.new.net in
    let fresh = map (λ f. cell_over f c.args.p) c.args.hole.now.rim.items in
    let gone = c.args.hole.now.gone.items in
    let moved = rw c.deref.ensures.value at c.clear_over.ensures.cells in
    back_again s c.args.p gone fresh rest now h (moved_cells (with_point c.args.p s) old (rest ++ fresh) moved k)
    (subst (λ (g : List Cell). AreMoved (rest ++ g) now) c.deref-2.ensures.value c.give_back.ensures.cells)

pub returns-clause-count : goal.returns-clause-count
returns-clause-count c =
    let old = cells_of_slots c.args.net.now in
    let rest = cells_of_slots c.clear_over.new.net in
    let rim = c.args.hole.now.rim.items in
    let over : Facet → Cell = λ f. cell_over f c.args.p in
    let moved = rw c.deref.ensures.value at c.clear_over.ensures.cells in
    let few = moved_few old rest (map over rim) c.requires.arrived.2.once moved in
    let n = length-map rim over in
    let count = c.give_back.ensures.count in
    let all = ap length c.deref-2.ensures.value in
    omega (arith, few, n, count, all)
