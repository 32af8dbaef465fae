use Rattle.grid_claims.proofs.Cited.{still}
use Rattle.worked_cases.proofs.orders.try_edit_once.Goals as goal

pub returns : goal.returns
returns g c = still c.args.pass.now c.try_edit.new.pass c.args.tag c.args.edit c.try_edit.result
    c.try_edit.ensures.edited c.try_edit.ensures.refused
