-- the sizes of the parts before the place
use Rattle.std.proofs.Common.{◌≡◌, map, take}
use Rattle.solid_parts.specs.Seen.{parts_seen}
use Rattle.solid_parts.specs.Text.{size_of}
use Rattle.solid_parts.proofs.sizes.Given as goal

abbrev pub invariant-loop-part : goal.invariant-loop-part
invariant-loop-part l = l.sizes.items ≡ map size_of (parts_seen (take l.part-index l.parts))
