use Rattle.std.proofs.Common.{◌≡◌, take}
use Rattle.edit_workers.specs.Running.{AreApplied}
use Rattle.edit_workers.proofs.running.apply_all.Given as goal

abbrev pub invariant-loop-tag : goal.invariant-loop-tag
invariant-loop-tag l = record {
  applied : AreApplied (take l.tag-index l.pairs) l.initial.mesh.history l.mesh.history;
  grid : l.mesh.grid ≡ l.initial.mesh.grid;
}
