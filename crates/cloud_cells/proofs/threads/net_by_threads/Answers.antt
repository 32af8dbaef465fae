use denote.Param.Send.{sendable}
use Rattle.std.proofs.Common.{[], ◌∷◌, ◌∙◌, ◌++◌, subst, sym, List, Option}
use Rattle.point_order.specs.declared.cell.Cell.{Cell}
use Rattle.cell_slots.specs.Clouds.{AreCellsOf}
use Rattle.cell_slots.specs.Nets.{AreMoved, cells_of_slots}
use Rattle.cell_slots.specs.Parts.{ArePut, HaveRoomFor}
use Rattle.cell_slots.specs.declared.reach.Reach.TheVariants.{Whole}
use Rattle.net_digs.proofs.Cited.{grown_set, others_new}
use Rattle.cell_slots.proofs.Cited.{moved_cells, put_whole}
use Rattle.cell_net.proofs.Cited.{whole_within}
use Rattle.cloud_cells.proofs.threads.net_by_threads.Goals as goal

pub put_by_threads-requires : goal.put_by_threads-requires
put_by_threads-requires g c =
    let points = c.four_of-a.result.0 ∷ c.four_of-a.result.1 ∷ c.four_of-a.result.2 ∷ c.four_of-a.result.3 ∷ [] in
    let four = cells_of_slots c.in_ok-four.four in
    let old = cells_of_slots c.gather_cells.new.net in
    let start : AreCellsOf points four = subst (λ (l : List Cell). AreCellsOf points l)
    (sym (c.in_ok-four.ensures ∙ c.deref.ensures.value)) c.in_ok-cells.ensures in
    let moved : AreMoved four old = subst (λ (n : List (Option Cell)). AreMoved (cells_of_slots n ++ four) old)
    c.in_ok-net.ensures c.in_ok-gather_cells.ensures in
    let begun : AreCellsOf points old = moved_cells points four old moved start in
    let room : HaveRoomFor Whole c.deref-2.result.now old = rw c.deref-2.ensures.value (
      whole_within points old begun,
      others_new c.args.points.now c.in_ok-turns.turns.items points c.requires.ascending c.in_ok-turns.ensures,
    ) in (search sendable depth 20, room)

pub returns : goal.returns
returns g c =
    let points = c.four_of-a.result.0 ∷ c.four_of-a.result.1 ∷ c.four_of-a.result.2 ∷ c.four_of-a.result.3 ∷ [] in
    let turns = c.in_ok-turns.turns.items in
    let four = cells_of_slots c.in_ok-four.four in
    let old = cells_of_slots c.gather_cells.new.net in
    let new = cells_of_slots c.put_by_threads.new.net in
    let start : AreCellsOf points four = subst (λ (l : List Cell). AreCellsOf points l)
    (sym (c.in_ok-four.ensures ∙ c.deref.ensures.value)) c.in_ok-cells.ensures in
    let moved : AreMoved four old = subst (λ (n : List (Option Cell)). AreMoved (cells_of_slots n ++ four) old)
    c.in_ok-net.ensures c.in_ok-gather_cells.ensures in
    let begun : AreCellsOf points old = moved_cells points four old moved start in
    let all : ArePut turns [] old new = rw c.deref-2.ensures.value at c.in_ok-put_by_threads.ensures in
    grown_set c.args.points.now turns points new c.requires.ascending c.in_ok-turns.ensures c.four_of-a.ensures.among
    (put_whole points turns [] old new all begun
    (others_new c.args.points.now turns points c.requires.ascending c.in_ok-turns.ensures))
