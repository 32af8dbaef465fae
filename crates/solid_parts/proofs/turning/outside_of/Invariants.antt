-- the outer triples before the place
use Rattle.std.proofs.Common.{◌≡◌, take}
use Rattle.std.specs.Prelude.{filter_map}
use Rattle.solid_parts.specs.Boundary.{outer_of}
use Rattle.solid_parts.proofs.turning.outside_of.Given as goal

abbrev pub invariant-loop-index : goal.invariant-loop-index
invariant-loop-index l = l.outside.items ≡ filter_map outer_of (take l.index l.faces.triples)
