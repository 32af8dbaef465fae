use Rattle.std.proofs.Common.{subst, sym, List, ℕ}
use Rattle.cell_slots.specs.Clouds.{AreCellsOf}
use Rattle.linked_mesh.proofs.set.LinkedSet.of_points.Goals as goal

pub invariant_of-result : goal.invariant_of-result
invariant_of-result c =
    subst (λ (k : List ℕ). AreCellsOf k c.in_ok-linked.linked.cells) (sym c.in_ok-points.ensures) c.in_ok-linked.ensures
