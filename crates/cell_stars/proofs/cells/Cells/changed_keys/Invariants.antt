use Rattle.std.proofs.Common.{length}
use Rattle.cell_stars.specs.Plans.{AreBelow, set_all}
use Rattle.cell_stars.proofs.KeyLaws.{KeysSoFar}
use Rattle.cell_stars.proofs.cells.Cells.changed_keys.Given as goal

abbrev pub invariant-loop-n : goal.invariant-loop-n
invariant-loop-n l =
    record {
      below : AreBelow (length l.base) l.changes.items;
      keys : KeysSoFar l.self.keys l.writes l.n-index (set_all l.changes.items l.base);
    }
