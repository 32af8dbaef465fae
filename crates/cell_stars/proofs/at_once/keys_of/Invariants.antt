use Rattle.cell_stars.specs.AtOnce.{AreNumberedTo}
use Rattle.cell_stars.proofs.at_once.keys_of.Given as goal

abbrev pub invariant-loop-number : goal.invariant-loop-number
invariant-loop-number l = AreNumberedTo l.number l.vertices l.keys.items
