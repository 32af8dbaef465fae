-- the greatest number so far, and the points that are left
use Rattle.std.specs.List.{list_any}
use Rattle.alpha_complex.specs.Judged.{is_small_cell}
use Rattle.alpha_complex.proofs.Cited.{AllLeft}
use Rattle.solid_parts.proofs.least.cover_least.Given as goal

abbrev pub invariant-loop-index : goal.invariant-loop-index
invariant-loop-index l = AllLeft (λ a cells. list_any (is_small_cell a) cells) (λ f. f.1) l.known.faces.now.points
    l.index l.least
