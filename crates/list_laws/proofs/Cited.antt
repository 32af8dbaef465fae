-- The lemmas that other crates cite.
pub use Rattle.list_laws.proofs.BelowFronts.{below_front, prefix_is}
pub use Rattle.list_laws.proofs.Ascending.{ascend_first, ascend_more, ascending_sorted, below_each, climbs, filter_swap}
pub use Rattle.list_laws.proofs.Ascending.{filtered_ascending, first_below, numbers_ascend, numbers_same, rises}
pub use Rattle.list_laws.proofs.Ascending.{same_members}
pub use Rattle.list_laws.proofs.Booleans.{and_first, and_last, and_middle, and_not, and_not_false, and_not_from}
pub use Rattle.list_laws.proofs.Booleans.{both_true, cond_false, cond_true, false_if, first_true, four_is, four_true}
pub use Rattle.list_laws.proofs.Booleans.{left_true, not_both, not_from, not_true, one_true, right_true, same_test}
pub use Rattle.list_laws.proofs.Booleans.{second_true, true_or_false}
pub use Rattle.list_laws.proofs.Counts.{count_less}
pub use Rattle.list_laws.proofs.Decided.{all_in, both, denied, either, follows, holds_true, is_at_zero, is_in}
pub use Rattle.list_laws.proofs.Decided.{is_not_below, is_positive, is_true, lists_discrete, moved, some_in, true_if}
pub use Rattle.list_laws.proofs.Decided.{true_if_no, true_if_same, true_if_yes}
pub use Rattle.list_laws.proofs.Distinct.{apart_place, at_middle, at_most, distinct_ascending, distinct_by_test}
pub use Rattle.list_laws.proofs.Distinct.{distinct_filter, distinct_less, distinct_map, distinct_push, distinct_take}
pub use Rattle.list_laws.proofs.Distinct.{distinct_with, four_once, in_both, in_wider, last_apart, rest_distinct}
pub use Rattle.list_laws.proofs.Distinct.{without_last}
pub use Rattle.list_laws.proofs.Filters.{IsFound, all_from, all_pass, all_true, any_from, any_none, any_true}
pub use Rattle.list_laws.proofs.Filters.{filter_and, filter_twice, filtered_from, filtered_true, found_from}
pub use Rattle.list_laws.proofs.Filters.{in_filtered, none_pass, passes, same_filter, search_pair, searched}
pub use Rattle.list_laws.proofs.Gathered.{Gathered, gather_all, gather_none, gather_push, gather_skip, gather_step}
pub use Rattle.list_laws.proofs.Gathered.{gathers}
pub use Rattle.list_laws.proofs.Inserted.{fold_comes, in_fold, sorted_fold}
pub use Rattle.list_laws.proofs.Later.{EachLater, IsLower, both_later, front_below, in_front, into_front, later_across}
pub use Rattle.list_laws.proofs.Later.{later_append, later_filter, later_left, later_map, later_pairs, later_right}
pub use Rattle.list_laws.proofs.Later.{later_unmap, later_weaken, map_numbers, numbered_below, numbered_lower}
pub use Rattle.list_laws.proofs.Later.{numbered_map, numbered_places, numbered_from, pairs_later, related, same_pairs}
pub use Rattle.list_laws.proofs.Later.{same_place}
pub use Rattle.list_laws.proofs.LeastRatio.{find_least, ratio_chain_less}
pub use Rattle.list_laws.proofs.Members.{all_by, all_of_each, among_from, among_true, at_in, contains_in, each_by}
pub use Rattle.list_laws.proofs.Members.{each_of_all, flat_from, from_append, in_flat, in_left, in_moved}
pub use Rattle.list_laws.proofs.Members.{in_permutation, in_pushed, in_right, in_snoc, mapped_from, mapped_true}
pub use Rattle.list_laws.proofs.Members.{none_in, not_among, of_three, pushed_new, pushed_old, snoc_new, snoc_old}
pub use Rattle.list_laws.proofs.Members.{split_at}
pub use Rattle.list_laws.proofs.Numbers.{below_from, below_true, cmp_less, differ_from, eq_same, is_equal, is_less}
pub use Rattle.list_laws.proofs.Numbers.{less_chain, one_below, ordered, round, same_from, same_list, same_true}
pub use Rattle.list_laws.proofs.Options.{at_none, if_some, is_there, none_at, none_is, none_or, none_there, nothing}
pub use Rattle.list_laws.proofs.Options.{of_some, on_err, one_value, past, same_pair, same_there, some_and, some_holds}
pub use Rattle.list_laws.proofs.Options.{some_is, some_mapped, some_of, to_some, within, within_some, zero_at}
pub use Rattle.list_laws.proofs.Parity.{HasSome, another, even_degrees, look, none_even, odd_same, odd_some, one_odd}
pub use Rattle.list_laws.proofs.Parity.{two_even}
pub use Rattle.list_laws.proofs.Places.{at_place, default_free, each_more, each_none, each_taken, front_is, in_more}
pub use Rattle.list_laws.proofs.Places.{in_take, in_take_more, index_in, last_one, len_set, map_set, more_one}
pub use Rattle.list_laws.proofs.Places.{set_swapped, set_there, set_twice, take_next, take_suc, within_list}
pub use Rattle.list_laws.proofs.Ranges.{counted_below, counted_on, map_but_one, range_ascending, rising}
pub use Rattle.list_laws.proofs.Sorted.{arranged_same, before_next, before_others, behind_all, deduped_same}
pub use Rattle.list_laws.proofs.Sorted.{deduped_sorted, in_end, is_last, itself, less_first, level, list_against}
pub use Rattle.list_laws.proofs.Sorted.{nat_ties, one_order, same_first, sorted_append, sorted_end, sorted_map}
pub use Rattle.list_laws.proofs.Sorted.{sorted_none}
pub use Rattle.list_laws.proofs.Zero.{against, below_or_not, clash, clash_above, first_factor, high_of, less_from}
pub use Rattle.list_laws.proofs.Zero.{less_true, low_of, low_turned, most_from, most_true, negative_of_zero, not_back}
pub use Rattle.list_laws.proofs.Zero.{not_below, not_other, not_zero, one_above, opposite, other_factor, positive}
pub use Rattle.list_laws.proofs.Zero.{positive_factor, self_negative, settled, turned_below, turned_most, two_signs}
pub use Rattle.list_laws.proofs.Zero.{weak, weak_below, zero_terms, zero_weak}
pub use Rattle.list_laws.proofs.Zips.{length_zip, zip_push}
pub use Rattle.list_laws.proofs.Parity.{odd_xor}
