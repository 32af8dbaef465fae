use Rattle.std.proofs.Common.{subst, List, ℕ}
use Rattle.point_order.specs.Sets.{AreSamePoints}
use Rattle.edit_history.specs.Histories.{replay}
use Rattle.edit_history.proofs.Cited.{leaves_set}
use Rattle.cell_store.proofs.Cited.{shows_of}
use Rattle.one_mesh.proofs.Gathering.{points_in}
use Rattle.one_mesh.proofs.lists.points.Goals as goal

pub returns-clause-points : goal.returns-clause-points
returns-clause-points c =
    points_in c.hold.result.now (replay c.args.mesh.now.history) c.points_in_order.result.items c.hold.ensures.whole
    (shows_of c.args.mesh.now c.hold.result.now c.hold.ensures) c.points_in_order.ensures.order
    (subst (λ (l : List ℕ). AreSamePoints l c.points_in_order.result.items) c.in_ok-points.ensures
    c.points_in_order.ensures.points)

pub returns-clause-ascending : goal.returns-clause-ascending
returns-clause-ascending c = leaves_set c.args.mesh.now.history

pub returns-in_err-points-clause-ascending : goal.returns-in_err-points-clause-ascending
returns-in_err-points-clause-ascending c = leaves_set c.args.mesh.now.history

pub returns-clause-solid : goal.returns-clause-solid
returns-clause-solid c = c.hold.ensures.stands.solid

pub returns-in_err-points-clause-solid : goal.returns-in_err-points-clause-solid
returns-in_err-points-clause-solid c = c.hold.ensures.stands.solid

pub returns-clause-keys : goal.returns-clause-keys
returns-clause-keys c = c.hold.ensures.stands.keys

pub returns-in_err-points-clause-keys : goal.returns-in_err-points-clause-keys
returns-in_err-points-clause-keys c = c.hold.ensures.stands.keys
