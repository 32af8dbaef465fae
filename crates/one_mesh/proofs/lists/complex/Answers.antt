use Rattle.edit_history.proofs.Cited.{leaves_set, ok_then}
use Rattle.edit_history.specs.Histories.{replay}
use Rattle.cell_store.proofs.Cited.{shows_of}
use Rattle.one_mesh.proofs.lists.complex.Goals as goal

pub returns-clause-cells : goal.returns-clause-cells
returns-clause-cells c =
    ok_then _ _ c.complex.result
    (λ cells f. f (replay c.args.mesh.now.history) (shows_of c.args.mesh.now c.hold.result.now c.hold.ensures))
    c.complex.ensures

pub returns-clause-ascending : goal.returns-clause-ascending
returns-clause-ascending c = leaves_set c.args.mesh.now.history

pub returns-clause-solid : goal.returns-clause-solid
returns-clause-solid c = c.hold.ensures.stands.solid

pub returns-clause-keys : goal.returns-clause-keys
returns-clause-keys c = c.hold.ensures.stands.keys
