use Rattle.cell_slots.specs.Nets.{cells_of_slots}
use Rattle.cell_slots.proofs.Cited.{room_left, put_left}
use Rattle.cloud_cells.proofs.threads.pass_on.Goals as goal

pub put_some-requires : goal.put_some-requires
put_some-requires g c =
    room_left c.args.waiting.now.items c.pass.new.waiting.items (cells_of_slots c.args.net.now)
    (cells_of_slots c.pass.new.net) c.requires c.in_ok-pass.ensures

pub returns : goal.returns
returns g c =
    put_left c.args.waiting.now.items c.pass.new.waiting.items c.put_some.new.waiting.items
    (cells_of_slots c.args.net.now) (cells_of_slots c.pass.new.net) (cells_of_slots c.put_some.new.net)
    c.in_ok-pass.ensures c.in_ok-put_some.ensures
