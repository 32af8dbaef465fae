use Rattle.std.proofs.Common.{◌≡◌, ◌++◌, List, ℕ}
use Rattle.point_order.specs.Sets.{IsIn}
use Rattle.edit_outcomes.specs.Folding.{AreChanges, AreOf}
use Rattle.edit_outcomes.proofs.anchors.push_all.Given as goal

-- all points of the list are in the set now, and those that were looked at and are in it are of the list
abbrev pub invariant-loop-p : goal.invariant-loop-p
invariant-loop-p l = record {
  there : (t : List ℕ) → AreChanges l.fn.set.keys t l.fn.changes → AreOf t l.fn.list.items → AreOf t l.list.items;
  kept : (q : ℕ) → IsIn q l.fn.list.items → IsIn q l.list.items;
  pushed : (seen : List ℕ) × (l.initial.p-iterator ≡ seen ++ l.p-iterator)
      × ((t : List ℕ) → AreChanges l.fn.set.keys t l.fn.changes → (q : ℕ) → IsIn q t → IsIn q seen →
      IsIn q l.list.items);
}
