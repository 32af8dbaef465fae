use Rattle.std.proofs.Common.{sym, subst}
use Rattle.mesh_rows.specs.declared.stop.Stop.{Stop}
use Rattle.mesh_rows.specs.Meshes.{IsStopCause}
use Rattle.mesh_rows.proofs.Clouds.{passed_on, points_more, refused_at}
use Rattle.mesh_rows.proofs.cloud.points_of.Goals as goal

pub returns-in_err-point_at-clause-refused : goal.returns-in_err-point_at-clause-refused
returns-in_err-point_at-clause-refused c =
    let given = c.args.given.now in
    let k = c.in_err-point_at.ensures.refused in
    passed_on given _ c.from_residual-in_err-point_at.result c.from_residual-in_err-point_at.ensures.1
    (subst (λ (x : Stop). IsStopCause given x) (sym k.0)
    (refused_at given c.loop-place.place-index _ c.loop-place-test.true k.1))

pub loop-place-preserved : goal.loop-place-preserved
loop-place-preserved c =
    points_more c.args.given.now c.loop-place.place-index _ c.loop-place.points.items c.put_point.new.points.items _
    c.loop-place-test.true c.in_ok-point_at.ensures.place c.in_ok-point_at.ensures.key c.in_ok-put_point.ensures
    c.loop-place.invariant.0 c.loop-place.invariant.1
