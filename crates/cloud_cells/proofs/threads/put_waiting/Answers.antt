use denote.Param.Send.{sendable}
use Rattle.cell_slots.specs.Nets.{cells_of_slots}
use Rattle.cell_slots.proofs.Cited.{room_left, moved_none, put_left, put_none}
use Rattle.cloud_cells.proofs.threads.put_waiting.Goals as goal

pub loop-init : goal.loop-init
loop-init g c =
    let cells = cells_of_slots c.args.net.now in put_none c.args.waiting.now.items cells cells (moved_none cells)

pub pass_if-requires : goal.pass_if-requires
pass_if-requires g c = (
  search sendable depth 20,
  room_left c.args.waiting.now.items c.loop.waiting.items (cells_of_slots c.args.net.now)
      (cells_of_slots c.loop.net) c.requires c.loop.invariant,
)

pub loop-preserved : goal.loop-preserved
loop-preserved g c =
    put_left c.args.waiting.now.items c.loop.waiting.items c.pass_if.new.waiting.items
    (cells_of_slots c.args.net.now) (cells_of_slots c.loop.net) (cells_of_slots c.pass_if.new.net) c.loop.invariant
    c.in_ok-pass_if.ensures
