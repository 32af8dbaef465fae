use Rattle.edit_history.proofs.Cited.{ok_then}
use Rattle.one_mesh.proofs.lists.history.Goals as goal

pub history-requires-clause-stands : goal.history-requires-clause-stands
history-requires-clause-stands c = (c.args.mesh.now.history, c.hold.ensures.stands)

pub returns : goal.returns
returns c = ok_then _ _ c.history.result (λ entries f. f c.args.mesh.now.history c.hold.ensures.stands)
    c.history.ensures
