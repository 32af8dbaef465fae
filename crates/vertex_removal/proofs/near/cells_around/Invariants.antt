use Rattle.std.proofs.Common.{ℕ, List, take}
use Rattle.cell_store.specs.Shares.{Shows}
use Rattle.gift_wrap.specs.Near.{IsStar, AreAdded, IsOfOne}
use Rattle.vertex_removal.proofs.near.cells_around.Given as goal

abbrev pub invariant-loop-cell : goal.invariant-loop-cell
invariant-loop-cell l =
    (s : List ℕ) → Shows l.hold s → IsStar s l.v l.star →
    AreAdded s l.v (IsOfOne (take l.cell-index l.star)) l.star l.around.items
