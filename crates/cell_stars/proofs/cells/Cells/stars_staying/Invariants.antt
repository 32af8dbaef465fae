use Rattle.std.proofs.Common.{◌≡◌, map, take}
use Rattle.point_order.specs.Sets.{IsIn}
use Rattle.cell_stars.specs.Adding.{IsStaying, Numbered, head_of}
use Rattle.cell_stars.proofs.cells.Cells.stars_staying.Given as goal

abbrev pub invariant-loop-n : goal.invariant-loop-n
invariant-loop-n l =
    record {
      heads : map head_of l.writes.items ≡ take l.n-index l.turns;
      stars : (w : Numbered) → IsIn w l.writes.items → IsStaying l.self l.freed w;
    }
