use denote.Param.Send.{sendable}
use Rattle.std.proofs.Common.{[], refl, subst, List, ℕ}
use Rattle.cell_slots.specs.Nets.{cells_of_slots}
use Rattle.cell_slots.specs.Parts.{ArePut}
use Rattle.cell_slots.proofs.Cited.{room_left, room_next, wait_more, moved_none, all_put, put_left, put_none}
use Rattle.cloud_cells.proofs.threads.put_by_threads.Goals as goal

pub loop-turn-init : goal.loop-turn-init
loop-turn-init g c =
    let cells = cells_of_slots c.args.net.now in
    rw c.new-waiting.ensures.items (put_none [] cells cells (moved_none cells))

pub wait-requires : goal.wait-requires
wait-requires g c = (
  search sendable depth 20,
  room_next c.args.turns.now c.loop-turn.waiting.items c.loop-turn.turn-index c.turn-item.result
      (cells_of_slots c.args.net.now) (cells_of_slots c.loop-turn.net) c.loop-turn-test.true c.turn-item.is
      c.loop-turn.invariant c.requires,
)

pub loop-turn-preserved : goal.loop-turn-preserved
loop-turn-preserved g c =
    wait_more c.args.turns.now c.loop-turn.waiting.items c.loop-turn.turn-index c.turn-item.result
    (cells_of_slots c.args.net.now) (cells_of_slots c.loop-turn.net) c.loop-turn-test.true c.turn-item.is
    c.loop-turn.invariant c.wait.new.waiting.items (cells_of_slots c.wait.new.net) c.in_ok-wait.ensures

pub put_points-requires : goal.put_points-requires
put_points-requires g c =
    rw c.deref.ensures.value (room_left c.args.turns.now c.loop-turn.waiting.items (cells_of_slots c.args.net.now)
    (cells_of_slots c.loop-turn.net) c.requires
    (all_put c.args.turns.now c.loop-turn.waiting.items c.loop-turn.turn-index (cells_of_slots c.args.net.now)
    (cells_of_slots c.loop-turn.net) c.loop-turn-test.false c.loop-turn.invariant))

pub returns : goal.returns
returns g c =
    let turns = c.args.turns.now in
    let waiting = c.loop-turn.waiting.items in
    let old = cells_of_slots c.args.net.now in
    let mid = cells_of_slots c.loop-turn.net in
    let new = cells_of_slots c.put_points.new.net in
    let first = all_put turns waiting c.loop-turn.turn-index old mid c.loop-turn-test.false c.loop-turn.invariant in
    let done : ArePut waiting c.in_ok-put_points.field-0.items mid new =
    rw c.deref.ensures.value at c.in_ok-put_points.ensures.put in
    put_left turns waiting [] old mid new first
    (subst (λ (l : List ℕ). ArePut waiting l mid new) (c.in_ok-put_points.ensures.all refl refl) done)
