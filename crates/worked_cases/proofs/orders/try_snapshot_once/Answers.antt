use Rattle.grid_claims.proofs.Cited.{still_snapped}
use Rattle.worked_cases.proofs.orders.try_snapshot_once.Goals as goal

pub returns : goal.returns
returns c = still_snapped c.args.pass.now c.try_snapshot.new.pass c.try_snapshot.result c.try_snapshot.ensures.shown
    c.try_snapshot.ensures.refused
