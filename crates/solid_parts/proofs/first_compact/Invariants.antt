-- none of the numbers before the place does, and links were taken
use Rattle.std.proofs.Common.{List, ℕ, length}
use Rattle.alpha_complex.specs.Condition.{AreFacesOf}
use Rattle.solid_parts.proofs.Few.{NoneBefore}
use Rattle.solid_parts.proofs.Counting.{IsClimbing}
use Rattle.solid_parts.proofs.first_compact.Given as goal

abbrev pub invariant-loop-level : goal.invariant-loop-level
invariant-loop-level l = record {
  none : (s : List ℕ) → AreFacesOf s l.faces → NoneBefore s l.k l.level-items l.level-index;
  climbing : IsClimbing (length l.leasts) l.links.items l.climb l.leads.items;
}
