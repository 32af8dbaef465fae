use Rattle.std.proofs.Common.{subst, sym, ◌⊎◌, ◌≡◌, Some, None}
use Rattle.cell_stars.proofs.Placing.{stands_at}
use Rattle.cell_stars.proofs.cells.Cells.placed.Goals as goal

pub invariant_of-result : goal.invariant_of-result
invariant_of-result c = stands_at (
  c.args.grid,
  c.args.number,
) _ (subst (λ b. (b.place ≡ None) ⊎ (b.place ≡ Some (c.args.grid, c.args.number))) (sym c.self.view_is)
    c.requires) c.self.invariant
