use Rattle.std.proofs.Common.{ap, ◌∙◌, List, ℕ}
use Rattle.std.proofs.lemmas.List.Sorted.{IsNonDecreasingBy-from_sort}
use Rattle.solid_parts.specs.Links.{count_to}
use Rattle.solid_parts.proofs.Climbing.{sorted_count}
use Rattle.solid_parts.proofs.least.sorted.Goals as goal

pub returns-clause-order : goal.returns-clause-order
returns-clause-order c = IsNonDecreasingBy-from_sort (λ n. n) c.sort_unstable.new.self.items
    c.sort_unstable.ensures.sorted

pub returns-clause-same : goal.returns-clause-same
returns-clause-same c alpha =
    sorted_count c.in_ok-sorted.sorted.items c.sort_unstable.new.self.items c.sort_unstable.ensures.permutation alpha
    ∙ ap (λ (v : List ℕ). count_to v alpha) c.in_ok-sorted.ensures.items
