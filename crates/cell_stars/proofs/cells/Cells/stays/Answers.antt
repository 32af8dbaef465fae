use Rattle.std.proofs.Common.{subst}
use Rattle.cell_stars.specs.Places.{AreStars}
use Rattle.cell_stars.proofs.MoveLaws.{stays_is}
use Rattle.cell_stars.proofs.cells.Cells.stays.Goals as goal

pub returns-in-Some : goal.returns-in-Some
returns-in-Some c = stays_is c.args.self.now c.args.freed.now c.args.cell.now c.in-Some.i c.has_number.result
    (subst AreStars c.self.view_is c.self.invariant) c.in-Some.ensures c.has_number.ensures
