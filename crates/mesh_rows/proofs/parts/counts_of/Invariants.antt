use Rattle.std.proofs.Common.{◌≡◌, length, map, take}
use Rattle.solid_parts.specs.Seen.{parts_seen}
use Rattle.mesh_rows.proofs.parts.counts_of.Given as goal

-- the counts of a front
abbrev pub invariant-loop-part : goal.invariant-loop-part
invariant-loop-part l = l.counts.items ≡ map length (parts_seen (take l.part-index l.parts))
