use Rattle.std.proofs.Common.{◌≡◌, take}
use Rattle.cell_stars.specs.Places.{part_at}
use Rattle.cell_stars.specs.Plans.{set_all}
use Rattle.cell_stars.proofs.keys.part_after.Given as goal

abbrev pub invariant-loop-change : goal.invariant-loop-change
invariant-loop-change l = l.part ≡ part_at (set_all (take l.change-index l.changes) l.base) l.number
