use Rattle.std.proofs.Common.{◌≡◌, length}
use Rattle.cell_stars.specs.Places.{named}
use Rattle.cell_stars.proofs.star.StarCellsIterator.next.Given as goal

abbrev pub invariant-loop-first : goal.invariant-loop-first
invariant-loop-first l = named l.self.slots.now l.self.star.now ≡ named l.initial.self.slots.now l.initial.self.star.now

abbrev pub decreases-loop-first : goal.decreases-loop-first
decreases-loop-first l = length l.self.star.now
