use Rattle.std.proofs.Common.{◌≡◌, take}
use Rattle.cell_stars.specs.Places.{all_keys}
use Rattle.cell_stars.proofs.parts.joined.Given as goal

abbrev pub invariant-loop-part : goal.invariant-loop-part
invariant-loop-part l = l.list.items ≡ all_keys (take l.part-index l.parts)
