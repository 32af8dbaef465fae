use Rattle.list_laws.proofs.Cited.{in_left}
use Rattle.hole_laws.proofs.Cited.{mates_judge, judged}
use Rattle.cell_slots.specs.Nets.{cells_of_slots}
use Rattle.cell_net.proofs.Cited.{within_listed}
use Rattle.net_digs.proofs.judge.is_in_conflict.Goals as goal

pub mate_of-requires-clause-cells : goal.mate_of-requires-clause-cells
mate_of-requires-clause-cells c = c.requires.cells.0

pub is_taken-requires : goal.is_taken-requires
is_taken-requires c =
    let w = c.requires.cells.0 in
    let l = cells_of_slots c.args.net.now in
    rw c.cell.ensures (mates_judge w.set c.args.p w.cells_of.solid.set c.requires.cells.1 c.args.spot.now
    c.in_ok-mate.mate (within_listed c.args.reach l w c.args.spot.now c.requires.among)
    (c.in_ok-mate.ensures w.others w.set w.cells_of))

pub returns : goal.returns
returns c others s k n =
    judged s c.args.p k.solid n c.args.spot.now c.in_ok-mate.mate
    ((k.members c.args.spot.now).0 (in_left c.args.spot.now (cells_of_slots c.args.net.now) others c.requires.among))
    (c.in_ok-mate.ensures others s k) c.is_taken.result (rw c.cell.ensures at c.is_taken.ensures)
