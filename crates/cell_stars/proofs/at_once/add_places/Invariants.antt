use Rattle.cell_stars.specs.AtOnce.{GainsPlaces}
use Rattle.cell_stars.proofs.AtOnce.{FirstHere}
use Rattle.cell_stars.proofs.at_once.add_places.Given as goal

abbrev pub invariant-loop-p : goal.invariant-loop-p
invariant-loop-p l = GainsPlaces l.keys (FirstHere l.grid l.number l.p-items l.p-index l.i) l.fn.stars l.stars
