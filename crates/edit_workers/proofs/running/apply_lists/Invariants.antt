use Rattle.std.proofs.Common.{◌≡◌, take}
use Rattle.edit_lists.specs.Dealing.{all_of, pairs_in}
use Rattle.edit_workers.specs.Running.{AreApplied}
use Rattle.edit_workers.proofs.running.apply_lists.Given as goal

abbrev pub invariant-loop-list : goal.invariant-loop-list
invariant-loop-list l = record {
  applied : AreApplied (all_of (pairs_in (take l.list-index l.lists))) l.initial.mesh.history l.mesh.history;
  grid : l.mesh.grid ≡ l.initial.mesh.grid;
}
