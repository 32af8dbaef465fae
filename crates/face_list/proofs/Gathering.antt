-- The numbers of the items of a key, as the items are passed in order.
use Rattle.std.proofs.Common.{◌≡◌, refl, sym, ap, subst, ◌∙◌, ℕ, ◌<◌, ◌⊎◌, inl, inr, true, false, List, [], ◌∷◌, ◌++◌}
use Rattle.std.proofs.Common.{map, length, get_or}
use Rattle.std.specs.List.{filter, All}
use Rattle.std.specs.List.Sorted.{IsStrictlySortedBy}
use Rattle.std.specs.Cmp.{IsTotalOrder}
use Rattle.std.specs.Ordering.{nat_cmp, is_eq, is_gt, ordering_then, ordering_reverse}
use Rattle.std.specs.declared.cmp.Ordering.{Ordering}
use Rattle.std.specs.declared.cmp.Ordering.TheVariants.{Less, Equal, Greater}
use Rattle.std.proofs.lemmas.Map.Lookups.{CmpEqualImpliesEq}
use Rattle.std.proofs.lemmas.List.{map-append, get_or_default}
use Rattle.std.proofs.lemmas.List.Elements.{filter-append}
use Rattle.list_laws.proofs.Cited.{all_by, at_in, each_by, filtered_from, filtered_true, is_equal, level, mapped_from}
use Rattle.list_laws.proofs.Cited.{mapped_true}
use Rattle.point_order.specs.declared.cell.Cell.{Cell}
use Rattle.point_order.specs.declared.cell.Cell.TheVariants.{Full}
use Rattle.point_order.specs.Sets.{IsIn}
use Rattle.face_list.specs.Gather.{item_cmp, numbers_of, full_keys, AreItems, is_a_full_cell}
use Rattle.face_list.specs.Tables.{cell_at}

-- ---- an item in front

-- of another key
pub other_key : {K : Type 0} (cmp : K → K → Ordering) (i : K × ℕ) (items : List (K × ℕ)) (k : K) (r : Ordering) →
    cmp i.0 k ≡ r → is_eq r ≡ false → numbers_of cmp (i ∷ items) k ≡ numbers_of cmp items k
other_key cmp i items k r e f = (let t : is_eq (cmp i.0 k) ≡ false = ap is_eq e ∙ f in rw t refl)

-- of the key
pub same_key : {K : Type 0} (cmp : K → K → Ordering) (i : K × ℕ) (items : List (K × ℕ)) (k : K) → cmp i.0 k ≡ Equal →
    numbers_of cmp (i ∷ items) k ≡ i.1 ∷ numbers_of cmp items k
same_key cmp i items k e = (let t : is_eq (cmp i.0 k) ≡ true = ap is_eq e in rw t refl)

-- the keys of items in order do not fall
keys_rise : {K : Type 0} (cmp : K → K → Ordering) (i j : K × ℕ) → item_cmp cmp i j ≡ Less →
    (cmp i.0 j.0 ≡ Less) ⊎ ((cmp i.0 j.0 ≡ Equal) × (nat_cmp i.1 j.1 ≡ Less))
keys_rise {K} cmp i j e = by (cmp i.0 j.0) refl e
  where
    by : (r : Ordering) → cmp i.0 j.0 ≡ r → ordering_then r (nat_cmp i.1 j.1) ≡ Less →
        (cmp i.0 j.0 ≡ Less) ⊎ ((cmp i.0 j.0 ≡ Equal) × (nat_cmp i.1 j.1 ≡ Less))
    by Less f h = inl f
    by Equal f h = inr (f, h)
    by Greater f h = cc

-- of two items in order the first has no later key
pub not_greater : {K : Type 0} (cmp : K → K → Ordering) (i j : K × ℕ) → item_cmp cmp i j ≡ Less →
    is_gt (cmp i.0 j.0) ≡ false
not_greater cmp i j e = elim (keys_rise cmp i j e) [ inl l ↦ ap is_gt l | inr l ↦ ap is_gt l.0 ]

-- where none of the items has the key, there is no number
none_of : {K : Type 0} (cmp : K → K → Ordering) (items : List (K × ℕ)) (k : K) →
    ((j : K × ℕ) → IsIn j items → cmp j.0 k ≡ Greater) → numbers_of cmp items k ≡ []
none_of cmp [] k f = refl
none_of cmp (i ∷ items) k f = other_key cmp i items k Greater (f i (inl refl)) refl
    ∙ none_of cmp items k (λ j m. f j (inr m))

-- of items in order the first of which is behind the key, none has it
pub none_behind : {K : Type 0} (cmp : K → K → Ordering) (o : IsTotalOrder cmp) (i : K × ℕ) (items : List (K × ℕ))
    (k : K) → IsStrictlySortedBy (item_cmp cmp) (i ∷ items) → cmp i.0 k ≡ Greater → numbers_of cmp (i ∷ items) k ≡ []
unfolding IsStrictlySortedBy
none_behind {K} cmp o i items k s e = none_of cmp (i ∷ items) k
    (λ j m. elim m [
      | inl q ↦ subst (λ (v : K × ℕ). cmp v.0 k ≡ Greater) q e
      | inr n ↦ later j
          (keys_rise cmp i j (each_by (λ z. item_cmp cmp i z ≡ Less) items s.0 j n))
    ])
  where
    -- the key is before the first
    first : cmp k i.0 ≡ Less
    first = o.antisymm k i.0 ∙ ap ordering_reverse e

    later : (j : K × ℕ) → (cmp i.0 j.0 ≡ Less) ⊎ ((cmp i.0 j.0 ≡ Equal) × (nat_cmp i.1 j.1 ≡ Less)) →
        cmp j.0 k ≡ Greater
    later j (inl l) = o.antisymm j.0 k ∙ ap ordering_reverse (o.trans k i.0 j.0 first l)
    later j (inr l) = sym (o.congr i.0 j.0 k l.0) ∙ e

-- what is not behind a key is before the next
pub before_later : {K : Type 0} (cmp : K → K → Ordering) (o : IsTotalOrder cmp) (a key k : K) →
    (cmp a key ≡ Less) ⊎ (cmp a key ≡ Equal) → cmp key k ≡ Less → cmp a k ≡ Less
before_later cmp o a key k (inl l) e = o.trans a key k l e
before_later cmp o a key k (inr l) e = o.congr a key k l ∙ e

-- ---- which numbers they are

-- the numbers of a key rise
pub numbers_rise : {K : Type 0} (cmp : K → K → Ordering) (o : IsTotalOrder cmp) (exact : CmpEqualImpliesEq cmp)
    (items : List (K × ℕ)) (k : K) → IsStrictlySortedBy (item_cmp cmp) items →
    IsStrictlySortedBy nat_cmp (numbers_of cmp items k)
unfolding IsStrictlySortedBy
numbers_rise cmp o exact [] k s = tt
numbers_rise {K} cmp o exact (i ∷ items) k s = by (numbers_rise cmp o exact items k s.1) (cmp i.0 k) refl
  where
    -- a later item of the key has a greater number
    above : cmp i.0 k ≡ Equal → (n : ℕ) → IsIn n (numbers_of cmp items k) → nat_cmp i.1 n ≡ Less
    above e n m = (
        let f = mapped_from (λ (j : K × ℕ). j.1) n (filter (λ (j : K × ℕ). is_eq (cmp j.0 k)) items) m in
        let g = filtered_from (λ (j : K × ℕ). is_eq (cmp j.0 k)) items f.0 f.1 in
        subst (λ v. nat_cmp i.1 v ≡ Less) f.2 (tied f.0 (exact f.0.0 k (is_equal (cmp f.0.0 k) g.1))
        (keys_rise cmp i f.0 (each_by (λ z. item_cmp cmp i z ≡ Less) items s.0 f.0 g.0))))
      where
        tied : (j : K × ℕ) → j.0 ≡ k → (cmp i.0 j.0 ≡ Less) ⊎ ((cmp i.0 j.0 ≡ Equal) × (nat_cmp i.1 j.1 ≡ Less)) →
            nat_cmp i.1 j.1 ≡ Less
        tied j q (inl l) = (let n : Equal ≡ Less = sym e ∙ subst (λ v. cmp i.0 v ≡ Less) q l in cc)
        tied j q (inr l) = l.1

    by : IsStrictlySortedBy nat_cmp (numbers_of cmp items k) → (r : Ordering) → cmp i.0 k ≡ r →
        IsStrictlySortedBy nat_cmp (numbers_of cmp (i ∷ items) k)
    by t Less e = subst (IsStrictlySortedBy nat_cmp) (sym (other_key cmp i items k Less e refl)) t
    by t Equal e = subst (IsStrictlySortedBy nat_cmp) (sym (same_key cmp i items k e))
        (all_by (λ n. nat_cmp i.1 n ≡ Less) (numbers_of cmp items k) (above e), t)
    by t Greater e = subst (IsStrictlySortedBy nat_cmp) (sym (other_key cmp i items k Greater e refl)) t

-- each stands beside the key
pub number_from : {K : Type 0} (cmp : K → K → Ordering) (exact : CmpEqualImpliesEq cmp) (items : List (K × ℕ)) (k : K)
    (n : ℕ) → IsIn n (numbers_of cmp items k) → IsIn (k, n) items
number_from {K} cmp exact items k n m = (
    let f = mapped_from (λ (j : K × ℕ). j.1) n (filter (λ (j : K × ℕ). is_eq (cmp j.0 k)) items) m in
    let g = filtered_from (λ (j : K × ℕ). is_eq (cmp j.0 k)) items f.0 f.1 in
    let a : f.0.0 ≡ k = exact f.0.0 k (is_equal (cmp f.0.0 k) g.1) in
    let e : f.0 ≡ (k, n) = both f.0 a f.2 in
    subst (λ (v : K × ℕ). IsIn v items) e g.0)
  where
    both : (j : K × ℕ) → j.0 ≡ k → j.1 ≡ n → j ≡ (k, n)
    both (a, b) p q = cc

-- and what stands beside it is one of them
pub number_true : {K : Type 0} (cmp : K → K → Ordering) (o : IsTotalOrder cmp) (items : List (K × ℕ)) (k : K) (n : ℕ) →
    IsIn (k, n) items → IsIn n (numbers_of cmp items k)
number_true {K} cmp o items k n m = mapped_true (λ (j : K × ℕ). j.1) (
  k,
  n,
) (filter (λ (j : K × ℕ). is_eq (cmp j.0 k)) items)
    (filtered_true (λ (j : K × ℕ). is_eq (cmp j.0 k)) items (k, n) m (ap is_eq (level cmp o k)))

-- each is one of an item
pub number_of_item : {K : Type 0} (cmp : K → K → Ordering) (items : List (K × ℕ)) (k : K) (n : ℕ) →
    IsIn n (numbers_of cmp items k) → IsIn n (map (λ i. i.1) items)
number_of_item {K} cmp items k n m = (
    let f = mapped_from (λ (j : K × ℕ). j.1) n (filter (λ (j : K × ℕ). is_eq (cmp j.0 k)) items) m in
    let g = filtered_from (λ (j : K × ℕ). is_eq (cmp j.0 k)) items f.0 f.1 in
    subst (λ v. IsIn v (map (λ (i : K × ℕ). i.1) items)) f.2 (mapped_true (λ (j : K × ℕ). j.1) f.0 items g.0))

-- ---- the keys of Full cells

-- with one item more
pub full_more : {K : Type 0} (cells : List Cell) (items : List (K × ℕ)) (i : K × ℕ) →
    is_a_full_cell (cell_at cells i.1) ≡ true → full_keys cells (items ++ i ∷ []) ≡ full_keys cells items ++ i.0 ∷ []
full_more {K} cells items i t = (
    let e : filter (λ (j : K × ℕ). is_a_full_cell (cell_at cells j.1)) (i ∷ []) ≡ i ∷ [] = rw t refl in
    ap (map (λ (j : K × ℕ). j.0)) (filter-append (λ (j : K × ℕ). is_a_full_cell (cell_at cells j.1)) items (i ∷ [])
    ∙ ap (λ (l : List (K × ℕ)). filter (λ (j : K × ℕ). is_a_full_cell (cell_at cells j.1)) items ++ l) e)
    ∙ map-append (λ (j : K × ℕ). j.0) (filter (λ (j : K × ℕ). is_a_full_cell (cell_at cells j.1)) items) (i ∷ []))

-- an item of an Open cell adds no key
pub open_more : {K : Type 0} (cells : List Cell) (items : List (K × ℕ)) (i : K × ℕ) →
    is_a_full_cell (cell_at cells i.1) ≡ false → full_keys cells (items ++ i ∷ []) ≡ full_keys cells items
open_more {K} cells items i t = (
    let e : filter (λ (j : K × ℕ). is_a_full_cell (cell_at cells j.1)) (i ∷ []) ≡ [] = rw t refl in
    ap (map (λ (j : K × ℕ). j.0)) (filter-append (λ (j : K × ℕ). is_a_full_cell (cell_at cells j.1)) items (i ∷ [])
    ∙ ap (λ (l : List (K × ℕ)). filter (λ (j : K × ℕ). is_a_full_cell (cell_at cells j.1)) items ++ l) e)
    ∙ map-append (λ (j : K × ℕ). j.0) (filter (λ (j : K × ℕ). is_a_full_cell (cell_at cells j.1)) items) []
    ∙ without_end (full_keys cells items))
  where
    without_end : (l : List K) → l ++ [] ≡ l
    without_end [] = refl
    without_end (x ∷ l) = ap (λ (m : List K). x ∷ m) (without_end l)

-- a key of a Full cell's item stands beside a number
pub full_from : {K : Type 0} (cells : List Cell) (items : List (K × ℕ)) (k : K) → IsIn k (full_keys cells items) →
    (n : ℕ) × IsIn (k, n) items × (is_a_full_cell (cell_at cells n) ≡ true)
full_from {K} cells items k m = (
    let f = mapped_from (λ (j : K × ℕ). j.0) k (filter (λ (j : K × ℕ). is_a_full_cell (cell_at cells j.1)) items) m in
    let g = filtered_from (λ (j : K × ℕ). is_a_full_cell (cell_at cells j.1)) items f.0 f.1 in
    let e : f.0 ≡ (k, f.0.1) = both f.0 f.2 in
    (f.0.1, subst (λ (v : K × ℕ). IsIn v items) e g.0, g.1))
  where
    both : (j : K × ℕ) → j.0 ≡ k → j ≡ (k, j.1)
    both (a, b) p = cc

-- and a key beside the number of a Full cell is one of them
pub full_true : {K : Type 0} (cells : List Cell) (items : List (K × ℕ)) (k : K) (n : ℕ) → IsIn (k, n) items →
    is_a_full_cell (cell_at cells n) ≡ true → IsIn k (full_keys cells items)
full_true {K} cells items k n m t = mapped_true (λ (j : K × ℕ). j.0) (
  k,
  n,
) (filter (λ (j : K × ℕ). is_a_full_cell (cell_at cells j.1)) items)
    (filtered_true (λ (j : K × ℕ). is_a_full_cell (cell_at cells j.1)) items (k, n) m t)

-- ---- lists that are taken apart

-- the others of items in order are in order
pub sorted_rest : {K : Type 0} (cmp : K → K → Ordering) (i : K × ℕ) (items : List (K × ℕ)) →
    IsStrictlySortedBy (item_cmp cmp) (i ∷ items) → IsStrictlySortedBy (item_cmp cmp) items
unfolding IsStrictlySortedBy
sorted_rest cmp i items s = s.1

-- an element put behind a list stands before what follows
pub end_joined : (l : List ℕ) (n : ℕ) (m : List ℕ) → (l ++ n ∷ []) ++ m ≡ l ++ n ∷ m
end_joined [] n m = refl
end_joined (x ∷ l) n m = ap (λ (v : List ℕ). x ∷ v) (end_joined l n m)

-- with nothing behind it a list is as it was
pub end_none : (l m : List ℕ) → m ≡ [] → l ≡ l ++ m
end_none [] m e = sym e
end_none (x ∷ l) m e = ap (λ (v : List ℕ). x ∷ v) (end_none l m e)

-- the cell of a number, as an index gives it
pub cell_is : (cells : List Cell) (n : ℕ) (c : Cell) → n < length cells → c ≡ get_or cells n c → c ≡ cell_at cells n
cell_is cells n c h e = e ∙ get_or_default cells n c (Full []) h

-- numbers of items are those of cells
pub all_numbers :
    {K : Type 0} (count : ℕ) (items sorted : List (K × ℕ)) (numbers : List ℕ) → AreItems count items →
    ((i : K × ℕ) → IsIn i sorted → IsIn i items) →
    ((n : ℕ) → IsIn n numbers → IsIn n (map (λ i. i.1) sorted)) → All (λ n. n < count) numbers
all_numbers {K} count items sorted numbers a f h =
    λ k d l. by (get_or numbers k d) (h (get_or numbers k d) (at_in numbers k d l))
  where
    by : (n : ℕ) → IsIn n (map (λ (i : K × ℕ). i.1) sorted) → n < count
    by n m = (let r = mapped_from (λ (i : K × ℕ). i.1) n sorted m in subst (λ v. v < count) r.2 (a r.0 (f r.0 r.1)))
