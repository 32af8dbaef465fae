use Rattle.std.proofs.Common.{◌≡◌, take}
use Rattle.edit_outcomes.specs.Folding.{StandsFor}
use Rattle.edit_outcomes.specs.Outcomes.{left, replies}
use Rattle.edit_outcomes.proofs.fold.outcome_of.Given as goal

-- the replies to the edits so far, and a fold that stands for what these leave
abbrev pub invariant-loop-edit : goal.invariant-loop-edit
invariant-loop-edit l = record {
  told : l.replies.items ≡ replies l.fn.set.keys (take l.edit-index l.edits);
  stands : StandsFor l.fn.set.keys (left l.fn.set.keys (take l.edit-index l.edits)) l.fold;
}
