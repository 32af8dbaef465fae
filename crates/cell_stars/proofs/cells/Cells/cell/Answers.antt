use Rattle.std.proofs.Common.{[], ◌∙◌, ap, sym}
use Rattle.cell_stars.specs.Places.{cells_of, live, at_slot}
use Rattle.cell_stars.proofs.CellLaws.{withs_new}
use Rattle.cell_stars.proofs.Least.{live_at}
use Rattle.cell_stars.proofs.cells.Cells.cell.Goals as goal

pub returns-in-Some : goal.returns-in-Some
unfolding cells_of
returns-in-Some c =
    let b = c.args.self.now in
    let d = c.in-Some.cell.now in
    withs_new (live b.slots) [] d (live_at b.slots c.args.place d
    (ap (λ s. at_slot s c.args.place) (sym (c.deref.ensures.value ∙ ap (λ v. v.slots) c.self.view_is))
    ∙ c.in-Some.ensures))
