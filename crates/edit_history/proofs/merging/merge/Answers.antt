use Rattle.std.proofs.Common.{rules, List, ◌++◌, Vec, Global, ◌≡◌, ◌∙◌, ap, subst, arith}
use Rattle.std.specs.Prelude.{IsPermutation}
use Rattle.std.specs.List.{flat_map}
use Rattle.std.proofs.lemmas.List.{take_all}
use Rattle.std.proofs.lemmas.List.Sorted.{IsNonDecreasingBy-from_sort_by_key}
use Rattle.edit_history.specs.declared.history.Entry.{Entry}
use Rattle.edit_history.proofs.Numbers.{merged_order, one_list_more}
use Rattle.edit_history.proofs.merging.merge.Goals as goal

pub returns-clause-order : goal.returns-clause-order
returns-clause-order c =
    let lists = c.args.lists.now in
    let entries : List Entry = flat_map (λ list. list.items) lists in
    let merged : List Entry = c.sort_unstable_by_key.new.self.items in
    let e : c.loop-list.merged.items ≡ entries = c.loop-list.invariant
    ∙ ap (flat_map (λ list. list.items)) (take_all c.loop-list.list-index lists (omega arith)) in
    let p : IsPermutation entries merged =
    subst (λ (s : List Entry). IsPermutation s merged) e c.sort_unstable_by_key.ensures.permutation in
    merged_order entries merged c.requires p (IsNonDecreasingBy-from_sort_by_key (λ (e : Entry). e.number) merged
    c.sort_unstable_by_key.ensures.sorted (λ a r q k. search rules))

pub returns-clause-entries : goal.returns-clause-entries
returns-clause-entries c =
    let lists = c.args.lists.now in
    let entries : List Entry = flat_map (λ list. list.items) lists in
    let e : c.loop-list.merged.items ≡ entries = c.loop-list.invariant
    ∙ ap (flat_map (λ list. list.items)) (take_all c.loop-list.list-index lists (omega arith)) in
    subst (λ (s : List Entry). IsPermutation s c.sort_unstable_by_key.new.self.items) e
    c.sort_unstable_by_key.ensures.permutation

pub loop-list-preserved : goal.loop-list-preserved
loop-list-preserved c =
    let f = λ (list : Vec Entry Global). list.items in
    let grown =
    c.in_ok-extend_from_slice.ensures.items ∙ ap (λ s. c.loop-list.merged.items ++ s) c.deref.ensures.value in
    one_list_more f c.args.lists.now c.loop-list.list-index c.list-item.result c.loop-list-test.true c.list-item.is
    grown c.loop-list.invariant
