use Rattle.std.proofs.Common.{◌≡◌, ◌+◌, length, drop}
use Rattle.edit_workers.specs.Alone.{with_edits}
use Rattle.edit_workers.proofs.alone.run_in_order.Given as goal

abbrev pub invariant-loop-edit : goal.invariant-loop-edit
invariant-loop-edit g l = record {
  made : with_edits l.mesh l.tag (drop l.edit-index l.edits) ≡ with_edits l.fn.mesh l.fn.first l.edits;
  tag_is : l.tag ≡ l.fn.first + l.edit-index;
  count : length l.mesh ≡ length l.fn.mesh + l.edit-index;
}
