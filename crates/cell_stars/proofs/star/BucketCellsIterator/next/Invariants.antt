use Rattle.std.proofs.Common.{◌≡◌, length}
use Rattle.cell_stars.specs.Places.{live}
use Rattle.cell_stars.proofs.star.BucketCellsIterator.next.Given as goal

abbrev pub invariant-loop-first : goal.invariant-loop-first
invariant-loop-first l = live l.self.slots.now ≡ live l.initial.self.slots.now

abbrev pub decreases-loop-first : goal.decreases-loop-first
decreases-loop-first l = length l.self.slots.now
