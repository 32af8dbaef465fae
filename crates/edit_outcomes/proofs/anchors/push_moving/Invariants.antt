use Rattle.std.proofs.Common.{List, ℕ}
use Rattle.edit_outcomes.specs.Folding.{AreChanges, AreOf}
use Rattle.edit_outcomes.proofs.anchors.push_moving.Given as goal

-- all points of the list are in the set now
abbrev pub invariant-loop-edit : goal.invariant-loop-edit
invariant-loop-edit l =
    (t : List ℕ) → AreChanges l.fn.set.keys t l.fn.changes → AreOf t l.fn.list.items → AreOf t l.list.items
