use Rattle.std.proofs.Common.{arith}
use Rattle.byte_ends.proofs.Told.{written_more}
use Rattle.byte_ends.proofs.loops.write_all.Goals as goal

pub loop-rest-preserved : goal.loop-rest-preserved
loop-rest-preserved g c = (
  written_more _ _ _ _ c.loop-rest.rest.now _ c.loop-rest.invariant.0 c.in_ok-count.ensures.bytes,
  omega (arith, c.in_ok-count.ensures.cause.later, c.loop-rest.invariant.1),
)
