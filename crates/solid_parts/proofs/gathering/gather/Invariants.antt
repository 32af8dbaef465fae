-- the cells before the place were looked at
use Rattle.solid_parts.specs.Seen.{parts_seen}
use Rattle.solid_parts.proofs.Gathered.{SoFar}
use Rattle.solid_parts.proofs.gathering.gather.Given as goal

abbrev pub invariant-loop-index : goal.invariant-loop-index
invariant-loop-index l = SoFar l.cells l.marks l.labels l.index l.places.items (parts_seen l.parts.items)
