use Rattle.cavity.proofs.Filling.{filled, rim_apart}
use Rattle.cavity.proofs.fill_hole.fill.Goals as goal

pub cells_of-requires : goal.cells_of-requires
cells_of-requires c =
    rw (c.rim.ensures, c.point.ensures) (rim_apart c.requires.0 c.args.dig.now c.requires.1)

pub returns-clause-filled : goal.returns-clause-filled
returns-clause-filled c s k =
    rw (
      c.in_ok-gone.ensures,
      c.found.ensures,
      c.in_ok-fresh.ensures,
      c.rim.ensures,
      c.point.ensures,
    ) (filled s c.args.dig.now k)
