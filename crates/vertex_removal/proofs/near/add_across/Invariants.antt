use Rattle.std.proofs.Common.{ℕ, List, take}
use Rattle.point_order.specs.Complex.{complex}
use Rattle.point_order.specs.Sets.{IsIn}
use Rattle.cell_store.specs.Shares.{Shows}
use Rattle.gift_wrap.specs.Near.{AreAdded, IsListedOf}
use Rattle.vertex_removal.proofs.near.add_across.Given as goal

abbrev pub invariant-loop-facet : goal.invariant-loop-facet
invariant-loop-facet l =
    (s : List ℕ) → Shows l.hold s → IsIn l.cell (complex s) →
    AreAdded s l.v (IsListedOf l.cell (take l.facet-index l.facet-items)) l.initial.around.items l.around.items
