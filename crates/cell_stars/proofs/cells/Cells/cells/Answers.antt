use Rattle.std.proofs.Common.{subst, sym, ap, ◌∙◌}
use Rattle.std.specs.Prelude.{IsPermutation}
use Rattle.cell_stars.specs.Places.{AreStars, live, cells_of}
use Rattle.cell_stars.proofs.Placing.{all_once}
use Rattle.cell_stars.proofs.cells.Cells.cells.Goals as goal

pub returns : goal.returns
returns c =
    let b = c.args.self.now in
    subst (λ l. IsPermutation (cells_of b.slots) (live l)) (ap (λ v. v.slots) (sym c.self.view_is)
    ∙ sym c.deref.ensures.value) (all_once b (subst AreStars c.self.view_is c.self.invariant))
