use Rattle.std.proofs.Common.{◌≡◌, true}
use Rattle.cell_stars.proofs.MoveLaws.{ComingSoFar, SingleSoFar}
use Rattle.cell_stars.proofs.cells.Cells.coming_by.Given as goal

abbrev pub invariant-loop-number : goal.invariant-loop-number
invariant-loop-number l =
    record {
      coming : ComingSoFar l.self l.freed l.fresh l.number l.coming.items;
      single : l.matched.single ≡ true → SingleSoFar l.fresh l.number l.coming.items;
    }
