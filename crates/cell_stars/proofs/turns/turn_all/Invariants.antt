use Rattle.std.proofs.Common.{◌≡◌, ◌++◌, drop, length, take}
use Rattle.cell_stars.specs.Plans.{AreBelow, set_all}
use Rattle.cell_stars.specs.Turns.{stood}
use Rattle.cell_stars.proofs.turns.turn_all.Given as goal

abbrev pub invariant-loop-i : goal.invariant-loop-i
invariant-loop-i g l =
    record {
      below : AreBelow (length l.list) (drop l.i-index l.changes);
      made : set_all (drop l.i-index l.changes) l.list ≡ set_all l.fn.changes l.fn.list;
      kept : take l.i-index l.changes ++ stood (drop l.i-index l.changes) l.list ≡ stood l.fn.changes l.fn.list;
    }
