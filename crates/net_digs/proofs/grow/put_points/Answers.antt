use Rattle.std.proofs.Common.{[], ◌∙◌}
use Rattle.cell_slots.specs.Nets.{cells_of_slots}
use Rattle.cell_slots.proofs.Cited.{moved_none, all_put, next_put, next_room, put_none}
use Rattle.net_digs.proofs.grow.put_points.Goals as goal

pub loop-turn-init : goal.loop-turn-init
loop-turn-init c = (
  rw c.new-left.ensures.items (put_none [] (cells_of_slots c.args.net.now) (cells_of_slots c.args.net.now)
      (moved_none (cells_of_slots c.args.net.now))),
  λ e f. c.new-left.ensures.items,
)

pub put_chosen-requires : goal.put_chosen-requires
put_chosen-requires c =
    next_room c.args.reach c.args.turns.now c.loop-turn.left.items c.loop-turn.turn-index c.turn-item.result
    (cells_of_slots c.args.net.now) (cells_of_slots c.loop-turn.net) c.loop-turn-test.true c.turn-item.is
    c.loop-turn.invariant.0 c.requires

pub loop-turn-preserved : goal.loop-turn-preserved
loop-turn-preserved c =
    let more = c.in_ok-put_chosen.ensures.put in (
      next_put c.args.reach c.args.turns.now c.loop-turn.left.items c.loop-turn.turn-index c.turn-item.result
          (cells_of_slots c.args.net.now) (cells_of_slots c.loop-turn.net) c.loop-turn-test.true c.turn-item.is
          c.loop-turn.invariant.0 c.put_chosen.new.left.items more.0 (cells_of_slots c.put_chosen.new.net)
          more.1 more.2,
      λ e f. c.in_ok-put_chosen.ensures.all e f ∙ c.loop-turn.invariant.1 e f,
    )

pub returns-clause-put : goal.returns-clause-put
returns-clause-put c =
    all_put c.args.turns.now c.loop-turn.left.items c.loop-turn.turn-index (cells_of_slots c.args.net.now)
    (cells_of_slots c.loop-turn.net) c.loop-turn-test.false c.loop-turn.invariant.0
