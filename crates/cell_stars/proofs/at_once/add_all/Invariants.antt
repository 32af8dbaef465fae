use Rattle.cell_stars.specs.AtOnce.{GainsPlaces, StandsAtHere}
use Rattle.cell_stars.proofs.at_once.add_all.Given as goal

abbrev pub invariant-loop-i : goal.invariant-loop-i
invariant-loop-i l = GainsPlaces l.keys (StandsAtHere l.grid l.number l.cells l.i) l.fn.stars l.stars
