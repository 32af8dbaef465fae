use Rattle.hanskup.proofs.Cited.{still}
use Rattle.tour.proofs.threads.tried.Goals as goal

pub returns : goal.returns
returns c = still c.args.pass.now c.try_edit.new.pass c.args.tag c.args.edit c.try_edit.result c.try_edit.ensures.edited
    c.try_edit.ensures.refused
