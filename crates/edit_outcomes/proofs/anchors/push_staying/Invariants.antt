use Rattle.std.proofs.Common.{List, ℕ}
use Rattle.edit_outcomes.specs.Folding.{AreChanges, AreOf}
use Rattle.edit_outcomes.proofs.anchors.push_staying.Given as goal

-- all points of the list are in the set now
abbrev pub invariant-loop-p : goal.invariant-loop-p
invariant-loop-p l =
    (t : List ℕ) → AreChanges l.fn.set.keys t l.fn.changes → AreOf t l.fn.list.items → AreOf t l.list.items
