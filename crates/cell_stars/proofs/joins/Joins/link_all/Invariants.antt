use Rattle.std.proofs.Common.{◌≡◌}
use Rattle.cell_stars.proofs.joins.Joins.link_all.Given as goal

abbrev pub invariant-loop-position : goal.invariant-loop-position
invariant-loop-position l = l.puts ≡ l.fn.puts
