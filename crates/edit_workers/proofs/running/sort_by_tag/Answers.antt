use Rattle.std.proofs.Common.{rules}
use Rattle.std.proofs.lemmas.List.Sorted.{IsNonDecreasingBy-from_sort_by_key}
use Rattle.plain_laws.specs.Running.{Pair}
use Rattle.edit_workers.proofs.Partly.{tags_in_order}
use Rattle.edit_workers.proofs.running.sort_by_tag.Goals as goal

pub returns : goal.returns
returns c = record {
  same = c.sort_unstable_by_key.ensures.permutation;
  order =
      tags_in_order c.sort_unstable_by_key.new.self.items
      (IsNonDecreasingBy-from_sort_by_key (λ (p : Pair). p.0) c.sort_unstable_by_key.new.self.items
      c.sort_unstable_by_key.ensures.sorted (λ a r q k. search rules));
}
