use Rattle.std.proofs.Common.{subst, ap, ◌∙◌}
use Rattle.cell_stars.specs.Places.{AreStars}
use Rattle.cell_stars.proofs.MoveLaws.{in_no_star, untouched}
use Rattle.cell_stars.proofs.cells.Cells.place_in_star.Goals as goal

pub returns-in-Some : goal.returns-in-Some
returns-in-Some c =
    let b = c.args.self.now in
    in_no_star b c.deref.result.now c.args.cell.now c.in-Some.star.now c.place_among.result
    (c.deref.ensures.value ∙ ap (λ v. v.slots) c.self.view_is) (subst AreStars c.self.view_is c.self.invariant)
    c.in-Some.ensures c.place_among.ensures

pub returns-in-None : goal.returns-in-None
returns-in-None c i e t = untouched c.args.self.now.place c.args.cell.now c.in-None.ensures t
