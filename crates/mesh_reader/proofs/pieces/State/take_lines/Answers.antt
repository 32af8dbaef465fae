use Rattle.mesh_reader.proofs.Pieced.{line_taken}
use Rattle.mesh_reader.proofs.pieces.State.take_lines.Goals as goal

pub loop-line-preserved : goal.loop-line-preserved
loop-line-preserved c = line_taken c.args.self c.loop-line.state c.in_ok-state.state c.args.bytes.now
    c.loop-line.rest.now c.in-Some.line.now c.in-Some.behind.now c.loop-line.invariant c.in_ok-state.ensures
    c.in-Some.ensures.parts
