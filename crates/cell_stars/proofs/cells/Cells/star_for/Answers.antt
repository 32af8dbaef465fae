use Rattle.cell_stars.proofs.AddLaws.{elsewhere}
use Rattle.cell_stars.proofs.cells.Cells.star_for.Goals as goal

pub returns-then-not-has_here : goal.returns-then-not-has_here
returns-then-not-has_here c =
    elsewhere c.args.self.now.place c.args.p c.has_here.result c.args.writes.now c.requires c.has_here.ensures
    c.if-not-has_here.true
