use Rattle.std.proofs.Common.{◌≡◌}
use Rattle.edit_workers.specs.Running.{AreRun}
use Rattle.edit_workers.proofs.Segments.{front_of}
use Rattle.edit_workers.proofs.running.run_edits.Given as goal

abbrev pub invariant-loop-segment : goal.invariant-loop-segment
invariant-loop-segment g l = record {
  run : AreRun (front_of l.segment-index l.fn.lists.segments.items) l.fn.mesh.history l.made.history;
  grid : l.made.grid ≡ l.fn.mesh.grid;
}
