use Rattle.std.proofs.Common.{ℕ, ◌<◌}
use Rattle.point_order.specs.declared.cell.Facet.TheVariants.{Three}
use Rattle.mesh_rows.specs.Linked.{IsOther}
use Rattle.mesh_rows.proofs.across.other.Given as goal

-- none of the cells so far is one
abbrev pub invariant-loop-m : goal.invariant-loop-m
invariant-loop-m l = (k : ℕ) → k < l.m → ¬ (IsOther l.cells l.n (Three l.tri) k)
