use Rattle.mesh_rows.proofs.Clouds.{none_more, refused_at}
use Rattle.mesh_rows.proofs.cloud.has_outside.Goals as goal

pub returns-in-Err-clause-some : goal.returns-in-Err-clause-some
returns-in-Err-clause-some c _ =
    refused_at c.args.given.now c.loop-place.place-index _ c.loop-place-test.true c.in-Err.ensures.refused.1

pub loop-place-preserved : goal.loop-place-preserved
loop-place-preserved c =
    none_more c.args.given.now c.loop-place.place-index _ _ c.loop-place-test.true c.in-Ok.ensures.place
    c.loop-place.invariant
