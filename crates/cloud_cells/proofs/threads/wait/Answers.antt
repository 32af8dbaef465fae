use denote.Param.Send.{sendable}
use Rattle.std.proofs.Common.{◌∷◌, [], ◌++◌}
use Rattle.cell_slots.specs.Nets.{cells_of_slots}
use Rattle.cell_slots.proofs.Cited.{moved_none, put_none}
use Rattle.cloud_cells.proofs.threads.wait.Goals as goal

pub put_waiting-requires : goal.put_waiting-requires
put_waiting-requires g c = (
  search sendable depth 20,
  rw (c.in_ok-push.ensures.items, c.copied.ensures) c.requires,
)

pub returns-then-not-is_time : goal.returns-then-not-is_time
returns-then-not-is_time g c =
    let cells = cells_of_slots c.args.net.now in
    rw (c.in_ok-push.ensures.items, c.copied.ensures)
    (put_none (c.args.waiting.now.items ++ c.args.turn.now ∷ []) cells cells (moved_none cells))

pub returns : goal.returns
returns g c = rw (c.in_ok-push.ensures.items, c.copied.ensures) at c.put_waiting.ensures
