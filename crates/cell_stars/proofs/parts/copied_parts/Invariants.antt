use Rattle.std.proofs.Common.{◌≡◌, take}
use Rattle.cell_stars.proofs.parts.copied_parts.Given as goal

abbrev pub invariant-loop-part : goal.invariant-loop-part
invariant-loop-part l = l.list.items ≡ take l.part-index l.parts
