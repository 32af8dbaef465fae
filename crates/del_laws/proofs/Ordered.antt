-- The sorted list of a complex is in the order of cells; lists in order with the same members are one.
use Rattle.std.specs.Prelude.{◌≡◌, refl, ℕ, zero, suc, List, [], ◌∷◌, map}
use Rattle.std.specs.List.{filter}
use Rattle.std.specs.List.Sorted.{IsStrictlySortedBy}
use Rattle.std.specs.Ordering.{nat_cmp}
use Rattle.std.specs.Cmp.Lexicographic.{slice_cmp}
use Rattle.std.specs.declared.cmp.Ordering.TheVariants.{Less}
use Rattle.std.proofs.Common.{inl, inr, sym, subst, ◌∙◌}
use Rattle.std.proofs.lemmas.List.Kept.{IsStrictlySortedBy-filter}
use Rattle.list_laws.proofs.Cited.{below_each, each_by, from_append, less_first, list_against, mapped_from, same_first}
use Rattle.list_laws.proofs.Cited.{sorted_append, sorted_map}
use Rattle.point_order.specs.declared.cell.Cell.{Cell}
use Rattle.point_order.specs.declared.cell.Cell.TheVariants.{Full, Open}
use Rattle.point_order.specs.Sets.{IsIn, IsAscending}
use Rattle.point_order.specs.Subsets.{subsets}
use Rattle.point_order.specs.CellOrder.{cell_cmp}
use Rattle.point_order.specs.Complex.{complex, is_full, is_open}
use Rattle.del_laws.specs.Listed.{ComplexIsSorted, SameCells}
use Rattle.del_laws.proofs.Listed.{part_inside, not_both_kinds}

-- ---- parts of an ascending list

-- no part of more than no elements is empty
no_empty : (k : ℕ) (s : List ℕ) → IsIn [] (subsets (suc k) s) → ⊥
no_empty k [] m = m
no_empty k (x ∷ s) m = elim (from_append [] (map (λ q. x ∷ q) (subsets k s)) (subsets (suc k) s) m) [
  | inl l ↦ (let r = mapped_from (λ q. x ∷ q) [] (subsets k s) l in none x r.0 r.2)
  | inr l ↦ no_empty k s l
]
  where
    -- a list with a first is not empty
    none : (x : ℕ) (q : List ℕ) → x ∷ q ≡ [] → ⊥
    none x q e = cc

-- the parts of an ascending list are in order
sorted_subsets : (k : ℕ) (s : List ℕ) → IsAscending s → IsStrictlySortedBy (slice_cmp nat_cmp) (subsets k s)
unfolding IsStrictlySortedBy
sorted_subsets zero s a = (tt, tt)
sorted_subsets (suc k) [] a = tt
sorted_subsets (suc k) (x ∷ s) a =
    sorted_append (slice_cmp nat_cmp) (map (λ q. x ∷ q) (subsets k s)) (subsets (suc k) s)
    (sorted_map (slice_cmp nat_cmp) (slice_cmp nat_cmp) (λ q. x ∷ q) (subsets k s) (sorted_subsets k s a.1)
    (λ q r e. same_first x q r e))
    (sorted_subsets (suc k) s a.1) before
  where
    -- with the first element before without it
    by_shape : (q r : List ℕ) → IsIn r (subsets (suc k) s) → slice_cmp nat_cmp (x ∷ q) r ≡ Less
    by_shape q [] m = absurd (no_empty k s m)
    by_shape q (y ∷ r) m = less_first x y q r (below_each x s a.0 a.1 y (part_inside (suc k) s (y ∷ r) m y (inl refl)))

    -- the same for any two
    before : (p r : List ℕ) → IsIn p (map (λ q. x ∷ q) (subsets k s)) → IsIn r (subsets (suc k) s) →
        slice_cmp nat_cmp p r ≡ Less
    before p r m n =
        (let q = mapped_from (λ q. x ∷ q) p (subsets k s) m in subst (λ (v : List ℕ). slice_cmp nat_cmp v r ≡ Less) q.2
        (by_shape q.0 r n))

-- ---- the complex

-- Full cells before Open ones
full_before : (c d : Cell) (l m : List (List ℕ)) → IsIn c (map Full l) → IsIn d (map Open m) → cell_cmp c d ≡ Less
full_before (Full q) (Open r) l m i j = refl
full_before (Full q) (Full r) l m i j =
    (let k = mapped_from Open (Full r) m j in absurd (not_both_kinds r k.0 (sym k.2)))
full_before (Open q) d l m i j = (let k = mapped_from Full (Open q) l i in absurd (not_both_kinds k.0 q k.2))

-- the list of a complex is in order
pub complex_is_sorted : ComplexIsSorted
unfolding complex
complex_is_sorted s a =
    sorted_append cell_cmp (map Full (filter (is_full s) (subsets 4 s))) (map Open (filter (is_open s) (subsets 3 s)))
    (sorted_map (slice_cmp nat_cmp) cell_cmp Full (filter (is_full s) (subsets 4 s))
    (IsStrictlySortedBy-filter (slice_cmp nat_cmp) (is_full s) (subsets 4 s) (sorted_subsets 4 s a)) (λ q r e. e))
    (sorted_map (slice_cmp nat_cmp) cell_cmp Open (filter (is_open s) (subsets 3 s))
    (IsStrictlySortedBy-filter (slice_cmp nat_cmp) (is_open s) (subsets 3 s) (sorted_subsets 3 s a)) (λ q r e. e))
    (λ c d i j. full_before c d (filter (is_full s) (subsets 4 s)) (filter (is_open s) (subsets 3 s)) i j)

-- ---- the same members

-- no two cells are each before the other
pub against : (c d : Cell) → cell_cmp c d ≡ Less → cell_cmp d c ≡ Less → ⊥
against (Full q) (Full r) e f = list_against q r e f
against (Full q) (Open r) e f = cc
against (Open q) (Full r) e f = cc
against (Open q) (Open r) e f = list_against q r e f

-- so lists in order with the same members are one
pub same_members : SameCells
unfolding IsStrictlySortedBy
same_members [] [] a b f g = refl
same_members [] (d ∷ m) a b f g = absurd (g d (inl refl))
same_members (c ∷ l) [] a b f g = absurd (f c (inl refl))
same_members (c ∷ l) (d ∷ m) a b f g =
    let e : c ≡ d = elim (f c (inl refl)) [
      | inl i ↦ sym i
      | inr i ↦ elim (g d (inl refl)) [
        | inl j ↦ j
        | inr j ↦ absurd (against c d (each_by (λ y. cell_cmp c y ≡ Less) l a.0 d j)
            (each_by (λ y. cell_cmp d y ≡ Less) m b.0 c i))
      ]
    ] in
    let t : l ≡ m = same_members l m a.1 b.1 (λ x i. elim (f x (inr i)) [
      | inl j ↦ absurd (itself (each_by (λ y. cell_cmp c y ≡ Less) l a.0 x i) (e ∙ j))
      | inr j ↦ j
    ]) (λ x i. elim (g x (inr i)) [
      | inl j ↦ absurd (itself (each_by (λ y. cell_cmp d y ≡ Less) m b.0 x i) (sym e ∙ j))
      | inr j ↦ j
    ]) in
    cc
  where
    -- no cell is before itself
    itself : {x y : Cell} → cell_cmp x y ≡ Less → x ≡ y → ⊥
    itself {x} {y} k q = (
        let n : cell_cmp x x ≡ Less = subst (λ v. cell_cmp x v ≡ Less) (sym q) k in
        against x x n n)
