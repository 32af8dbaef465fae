-- Numbers in order.
use Rattle.std.specs.Prelude.{◌≡◌, ℕ, ◌+◌, ◌<◌, ◌==◌, nat_eq, List, [], ◌∷◌, ◌++◌, length, take}
use Rattle.std.specs.List.{flat_map, range_with_len}
use Rattle.std.specs.List.Sorted.{IsPermutation, IsNonDecreasing, IsNonDecreasingBy}
use Rattle.std.proofs.Common.{sym, ◌∙◌, ap, arith, get_or, append-nil}
use Rattle.std.proofs.lemmas.Grind.{flat_map-append}
use Rattle.std.proofs.lemmas.List.{length-map, get_or-map, take_more}
use Rattle.std.proofs.lemmas.List.Sorted.{IsPermutation-map, IsPermutation-sym, IsPermutation-trans}
use Rattle.std.proofs.lemmas.List.Sorted.{list_any-IsPermutation, length_permutation}
use Rattle.std.proofs.lemmas.Map.Keys.{IsDistinct-IsPermutation}
use Rattle.std.proofs.lemmas.Bool.Decides.{nat_tests}
use Rattle.list_laws.proofs.Cited.{among_from, among_true, distinct_by_test, range_ascending, rising, same_members}
use Rattle.edit_history.specs.declared.history.Entry.{Entry}
use Rattle.edit_history.specs.Merging.{numbers, places_of, AreNumbered}

-- ---- ascending lists and lists that do not repeat

-- numbers that do not fall and are 0, 1, 2 and so on in some order are so in this order
in_order : (s : List ℕ) (n : ℕ) → IsNonDecreasing s → IsPermutation s (range_with_len 0 n) → s ≡ range_with_len 0 n
in_order s n h p =
    let q = IsPermutation-sym s (range_with_len 0 n) p in
    same_members s (range_with_len 0 n)
    (rising s h (IsDistinct-IsPermutation nat_eq flips (range_with_len 0 n) s q
    (distinct_by_test (range_with_len 0 n) (range_ascending 0 n))))
    (range_ascending 0 n)
    (λ x i. among_from x (range_with_len 0 n) (list_any-IsPermutation (λ q. q == x) (range_with_len 0 n) s q
    ∙ among_true x s i))
    (λ x i. among_from x s (list_any-IsPermutation (λ q. q == x) s (range_with_len 0 n) p
    ∙ among_true x (range_with_len 0 n) i))
  where
    flips : (x y : ℕ) → nat_eq x y ≡ nat_eq y x
    flips x y = grind (arith, nat_tests)

-- ---- sorted entries

-- entries numbered 0, 1, 2 and so on, sorted by number, each have their place for a number
pub merged_order : (entries merged : List Entry) → AreNumbered entries → IsPermutation entries merged →
    IsNonDecreasingBy (λ e. e.number) merged → numbers merged ≡ places_of merged
merged_order entries merged a p h =
    let l : length merged ≡ length entries = length_permutation entries merged p in
    let q : IsPermutation (numbers merged) (range_with_len 0 (length entries)) = IsPermutation-trans (numbers merged)
    (numbers entries) (range_with_len 0 (length entries)) (IsPermutation-sym (numbers entries) (numbers merged)
    (IsPermutation-map (λ e. e.number) entries merged p)) a in
    in_order (numbers merged) (length entries) (by_number merged h) q ∙ ap (range_with_len 0) (sym l)
  where
    by_number : (es : List Entry) → IsNonDecreasingBy (λ e. e.number) es → IsNonDecreasing (numbers es)
    by_number [] h i j d l m = absurd (omega arith)
    by_number (e ∷ es) h i j d l m =
        let k : j < length (e ∷ es) = omega (arith, length-map (e ∷ es) (λ (e : Entry). e.number)) in
        let a : get_or (numbers (e ∷ es)) i d ≡ (get_or (e ∷ es) i e).number =
        get_or-map (λ (e : Entry). e.number) (e ∷ es) i e d (omega arith) in
        let b : get_or (numbers (e ∷ es)) j d ≡ (get_or (e ∷ es) j e).number =
        get_or-map (λ (e : Entry). e.number) (e ∷ es) j e d k in
        omega (arith, a, b, h i j e l k)

-- one more list is kept behind those before it
pub one_list_more : {L A : Type 0} (f : L → List A) (lists : List L) (i : ℕ) (list : L) {kept more : List A} →
    i < length lists → list ≡ get_or lists i list → more ≡ kept ++ f list → kept ≡ flat_map f (take i lists)
    → more ≡ flat_map f (take (i + 1) lists)
one_list_more f lists i list {kept} {more} h is_at e before =
    e ∙ ap (λ s. s ++ f list) before ∙ ap (λ s. flat_map f (take i lists) ++ s) (sym (append-nil (f list)))
    ∙ sym (flat_map-append f (take i lists) (list ∷ [])) ∙ ap (λ x. flat_map f (take i lists ++ x ∷ [])) is_at
    ∙ ap (flat_map f) (sym (take_more lists i list h))
