-- What a binary search finds in a list that is strictly in order.
use Rattle.std.proofs.Common.{◌≡◌, refl, sym, ap, ◌∙◌, ℕ, zero, suc, ◌+◌, ◌<◌, inl, inr, Bool, false, List, [], ◌∷◌}
use Rattle.std.proofs.Common.{map, length, get_or, arith}
use Rattle.std.specs.Prelude.{Result, Ok, Err, is_ok}
use Rattle.std.specs.List.{list_any}
use Rattle.std.specs.List.Sorted.{IsStrictlySortedBy, IsSortedBy, IsSearchInRange, IsBinarySearchResult}
use Rattle.std.specs.Ordering.{is_eq, is_lt, ordering_reverse}
use Rattle.std.specs.Cmp.{IsTotalOrder}
use Rattle.std.specs.declared.cmp.Ordering.{Ordering}
use Rattle.std.specs.declared.cmp.Ordering.TheVariants.{Less}
use Rattle.std.proofs.lemmas.Bool.{cases_lt}
use Rattle.std.proofs.lemmas.List.Folds.{list_any_at}
use Rattle.std.proofs.lemmas.List.Sorted.{searchable_from_sorted}
use Rattle.std.proofs.lemmas.Map.Keys.{Less-from_sorted}
use Rattle.point_order.specs.Sets.{IsIn}

-- what is strictly in order is in order
in_order : {K : Type 0} {R : K → K → Ordering} (o : IsTotalOrder R) (xs : List K) → IsStrictlySortedBy R xs →
    IsSortedBy (λ a b. is_lt (R a b)) xs
in_order {K} {R} o xs s k d l h = (
    let e : R (get_or xs k d) (get_or xs (k + 1) d) ≡ Less = Less-from_sorted R xs k (k + 1) d s (omega arith) h in
    ap is_lt (o.antisymm (get_or xs (k + 1) d) (get_or xs k d) ∙ ap ordering_reverse e))

-- a list of which no place passes a test has none that does
none_at : {K : Type 0} (p : K → Bool) (xs : List K) → ((k : ℕ) (d : K) → k < length xs → p (get_or xs k d) ≡ false) →
    list_any p xs ≡ false
none_at p [] h = refl
none_at p (x ∷ xs) h = (
    let f : p x ≡ false = h 0 x (omega arith) in
    rw f (none_at p xs (λ k d l. h (suc k) d (omega arith))))

-- the answer of a search is that the list has an element that ties
pub search_is :
    {K : Type 0} {R : K → K → Ordering} (o : IsTotalOrder R) (xs : List K) (x : K) (r : Result ℕ ℕ) →
    IsSearchInRange r (length xs) →
    IsStrictlySortedBy R xs → IsBinarySearchResult (λ y. R y x) xs r → is_ok r ≡ list_any (λ y. is_eq (R y x)) xs
search_is {K} {R} o xs x (Ok i) b s h = sym (list_any_at (λ y. is_eq (R y x)) xs i x b (ap is_eq (h x)))
search_is {K} {R} o xs x (Err i) b s h = (
    let q = h (searchable_from_sorted o (λ y. y) xs x (in_order o xs s)) in
    sym (none_at (λ y. is_eq (R y x)) xs (λ k d l. elim (cases_lt k i) [
      | inl m ↦ ap is_eq (q.0 k d (omega arith) m)
      | inr m ↦ ap is_eq (q.1 k d (omega arith) l)
    ])))

-- what f makes of a member of a list is among what it makes of all
pub mapped_at : {X Y : Type 0} (f : X → Y) (xs : List X) (i : ℕ) (x : X) → i < length xs → x ≡ get_or xs i x →
    IsIn (f x) (map f xs)
mapped_at f [] i x l e = absurd (omega arith)
mapped_at f (y ∷ xs) zero x l e = inl (ap f (sym e))
mapped_at f (y ∷ xs) (suc i) x l e = inr (mapped_at f xs i x (omega arith) e)
