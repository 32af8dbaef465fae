use Rattle.cell_slots.specs.Nets.{cells_of_slots}
use Rattle.net_digs.proofs.Marked.{picked_none}
use Rattle.net_digs.proofs.dig.hole_of.Goals as goal

pub returns-in-None-clause-picked : goal.returns-in-None-clause-picked
returns-in-None-clause-picked c =
    picked_none (cells_of_slots c.args.net.now) c.clear.new.self.items c.clear.ensures.items
