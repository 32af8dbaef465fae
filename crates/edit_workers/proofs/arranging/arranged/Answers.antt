use Rattle.std.proofs.Common.{rules, subst, ◌∙◌, List}
use Rattle.std.specs.Prelude.{IsPermutation}
use Rattle.std.proofs.lemmas.List.Sorted.{IsNonDecreasingBy-from_sort_by_key}
use Rattle.plain_laws.specs.Running.{Pair}
use Rattle.edit_workers.specs.Arranging.{key_of_place}
use Rattle.edit_workers.proofs.ByKeys.{by_keys}
use Rattle.edit_workers.proofs.arranging.arranged.Goals as goal

pub returns : goal.returns
returns c =
    let sorted = c.sort_unstable_by_key.new.self.items in
    by_keys c.beginning-begin.result c.args.list.now.pairs.items sorted c.requires.tags
    (subst (λ (l : List Pair). IsPermutation l sorted) (c.in_ok-pairs.ensures.items ∙ c.deref.ensures.value)
    c.sort_unstable_by_key.ensures.permutation)
    (IsNonDecreasingBy-from_sort_by_key (key_of_place c.beginning-begin.result) sorted
    c.sort_unstable_by_key.ensures.sorted
    (λ a r q k. search rules))
