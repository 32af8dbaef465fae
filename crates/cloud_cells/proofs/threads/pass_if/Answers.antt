use Rattle.cell_slots.specs.Nets.{cells_of_slots}
use Rattle.cell_slots.proofs.Cited.{moved_none, put_none}
use Rattle.cloud_cells.proofs.threads.pass_if.Goals as goal

pub returns-then-is_enough : goal.returns-then-is_enough
returns-then-is_enough g c =
    let cells = cells_of_slots c.args.net.now in put_none c.args.waiting.now.items cells cells (moved_none cells)
