use Rattle.hole_laws.proofs.Cited.{mates_judge}
use Rattle.cell_store.proofs.Cited.{solid_set}
use Rattle.hole_laws.proofs.Cited.{judged}
use Rattle.cell_conflict.proofs.judge.is_spot_in_conflict.Goals as goal

pub conflict-requires : goal.conflict-requires
conflict-requires c =
    let r = c.requires.shown in
    rw c.cell.ensures
    (mates_judge r.0 c.args.p (solid_set c.args.hold.now r.0 r.1).set r.3 c.args.spot.now c.mate_of-mate.result r.2
    (c.mate_of-mate.ensures r.0 r.1 r.2))

pub returns : goal.returns
returns c h st n k =
    judged h c.args.p (solid_set c.args.hold.now h st) n c.args.spot.now c.mate_of-mate.result k
    (c.mate_of-mate.ensures h st k) c.conflict.result (rw c.cell.ensures at c.conflict.ensures)
