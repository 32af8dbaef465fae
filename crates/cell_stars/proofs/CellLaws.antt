-- Cells in sorted lists, and exchanges of them.
use Rattle.std.specs.Prelude.{◌≡◌, ℕ, Bool, true, false, not, ◌||◌, List, [], ◌∷◌, ◌⊎◌}
use Rattle.std.specs.List.{filter}
use Rattle.std.specs.List.Sorted.{IsStrictlySortedBy}
use Rattle.std.specs.Ordering.{is_eq, match_ordering}
use Rattle.std.specs.declared.cmp.Ordering.{Ordering}
use Rattle.std.specs.declared.cmp.Ordering.TheVariants.{Less, Equal, Greater}
use Rattle.std.proofs.Common.{refl, sym, ◌∙◌, ap, subst, inl, inr}
use Rattle.std.proofs.lemmas.List.Kept.{IsStrictlySortedBy-filter}
use Rattle.del_laws.proofs.Cited.{same_members}
use Rattle.list_laws.proofs.Cited.{all_by, each_by, filtered_from, filtered_true}
use Rattle.point_order.proofs.Cited.{cell_after, cell_before, cell_in_or_not, cell_same, cell_self}
use Rattle.point_order.specs.declared.cell.Cell.{Cell}
use Rattle.point_order.specs.CellOrder.{cell_cmp}
use Rattle.point_order.specs.Sets.{IsIn}
use Rattle.cell_stars.specs.Swaps.{is_cell_among, with_cell, without_cells, touches, swapped, with_all_cells}

-- ---- whether a cell is in a list

-- a cell of a list is found there
pub among_true : (c : Cell) (l : List Cell) → IsIn c l → is_cell_among c l ≡ true
among_true c [] m = absurd m
among_true c (d ∷ l) (inl e) = rw (ap (λ x. is_eq (cell_cmp x c)) e ∙ ap is_eq (cell_self c)) refl
among_true c (d ∷ l) (inr m) = by (is_eq (cell_cmp d c)) (among_true c l m)
  where
    by : (b : Bool) → is_cell_among c l ≡ true → (b || is_cell_among c l) ≡ true
    by true h = refl
    by false h = h

-- and one that is found is one of it
pub among_from : (c : Cell) (l : List Cell) → is_cell_among c l ≡ true → IsIn c l
among_from c [] e = cc
among_from c (d ∷ l) e = by (cell_cmp d c) refl e (λ f. among_from c l f)
  where
    by : (o : Ordering) → cell_cmp d c ≡ o → (is_eq o || is_cell_among c l) ≡ true →
        (is_cell_among c l ≡ true → IsIn c l) → (d ≡ c) ⊎ IsIn c l
    by Less f e r = inr (r e)
    by Equal f e r = inl (cell_same d c f)
    by Greater f e r = inr (r e)

-- ---- one more cell

-- a cell of a list with one more is that one, or was there
pub in_with : (c x : Cell) (l : List Cell) → IsIn x (with_cell c l) → (c ≡ x) ⊎ IsIn x l
in_with c x [] m = m
in_with c x (d ∷ l) m = by (cell_cmp c d) m (λ k. in_with c x l k)
  where
    by : (o : Ordering) → IsIn x (match_ordering o (c ∷ d ∷ l) (d ∷ l) (d ∷ with_cell c l)) →
        (IsIn x (with_cell c l) → (c ≡ x) ⊎ IsIn x l) → (c ≡ x) ⊎ IsIn x (d ∷ l)
    by Less m r = m
    by Equal m r = inr m
    by Greater (inl e) r = inr (inl e)
    by Greater (inr m) r = elim (r m) [ inl e ↦ inl e | inr k ↦ inr (inr k) ]

-- the one more is there
with_new : (c : Cell) (l : List Cell) → IsIn c (with_cell c l)
with_new c [] = inl refl
with_new c (d ∷ l) = by (cell_cmp c d) refl (with_new c l)
  where
    by : (o : Ordering) → cell_cmp c d ≡ o → IsIn c (with_cell c l) →
        IsIn c (match_ordering o (c ∷ d ∷ l) (d ∷ l) (d ∷ with_cell c l))
    by Less e r = inl refl
    by Equal e r = inl (sym (cell_same c d e))
    by Greater e r = inr r

-- and what was there is there still
with_old : (c x : Cell) (l : List Cell) → IsIn x l → IsIn x (with_cell c l)
with_old c x [] m = absurd m
with_old c x (d ∷ l) m = by (cell_cmp c d) m (λ k. with_old c x l k)
  where
    by : (o : Ordering) → IsIn x (d ∷ l) → (IsIn x l → IsIn x (with_cell c l)) →
        IsIn x (match_ordering o (c ∷ d ∷ l) (d ∷ l) (d ∷ with_cell c l))
    by Less m r = inr m
    by Equal m r = m
    by Greater (inl e) r = inl e
    by Greater (inr m) r = inr (r m)

-- and the list is in order, each once, as before
with_sorted : (c : Cell) (l : List Cell) → IsStrictlySortedBy cell_cmp l → IsStrictlySortedBy cell_cmp (with_cell c l)
unfolding IsStrictlySortedBy
with_sorted c [] s = (tt, tt)
with_sorted c (d ∷ l) s = by (cell_cmp c d) refl (with_sorted c l s.1)
  where
    first : cell_cmp c d ≡ Less → (y : Cell) → IsIn y (d ∷ l) → cell_cmp c y ≡ Less
    first e y (inl q) = subst (λ z. cell_cmp c z ≡ Less) q e
    first e y (inr m) = cell_before c d y e (each_by (λ z. cell_cmp d z ≡ Less) l s.0 y m)

    later : cell_cmp c d ≡ Greater → (y : Cell) → IsIn y (with_cell c l) → cell_cmp d y ≡ Less
    later e y m = elim (in_with c y l m) [
      | inl q ↦ subst (λ z. cell_cmp d z ≡ Less) q (cell_after c d e)
      | inr k ↦ each_by (λ z. cell_cmp d z ≡ Less) l s.0 y k
    ]

    by : (o : Ordering) → cell_cmp c d ≡ o → IsStrictlySortedBy cell_cmp (with_cell c l) →
        IsStrictlySortedBy cell_cmp (match_ordering o (c ∷ d ∷ l) (d ∷ l) (d ∷ with_cell c l))
    by Less e r = (all_by (λ y. cell_cmp c y ≡ Less) (d ∷ l) (first e), s)
    by Equal e r = s
    by Greater e r = (all_by (λ y. cell_cmp d y ≡ Less) (with_cell c l) (later e), r)

-- ---- more cells

-- the same of several cells more: a cell is one of these, or was there
pub in_withs : (cs l : List Cell) (x : Cell) → IsIn x (with_all_cells cs l) → IsIn x cs ⊎ IsIn x l
in_withs [] l x m = inr m
in_withs (c ∷ cs) l x m = elim (in_withs cs (with_cell c l) x m) [
  | inl i ↦ inl (inr i)
  | inr k ↦ elim (in_with c x l k) [ inl e ↦ inl (inl e) | inr i ↦ inr i ]
]

-- what was there is there still
pub withs_old : (cs l : List Cell) (x : Cell) → IsIn x l → IsIn x (with_all_cells cs l)
withs_old [] l x m = m
withs_old (c ∷ cs) l x m = withs_old cs (with_cell c l) x (with_old c x l m)

-- and these are there
pub withs_new : (cs l : List Cell) (x : Cell) → IsIn x cs → IsIn x (with_all_cells cs l)
withs_new [] l x m = absurd m
withs_new (c ∷ cs) l x (inl e) = withs_old cs (with_cell c l) x
    (subst (λ (y : Cell). IsIn y (with_cell c l)) e (with_new c l))
withs_new (c ∷ cs) l x (inr m) = withs_new cs (with_cell c l) x m

-- and the list is in order
pub withs_sorted : (cs l : List Cell) → IsStrictlySortedBy cell_cmp l →
    IsStrictlySortedBy cell_cmp (with_all_cells cs l)
withs_sorted [] l s = s
withs_sorted (c ∷ cs) l s = withs_sorted cs (with_cell c l) (with_sorted c l s)

-- ---- exchanges

-- the cell is none of the gone ones
abbrev pub kept : List Cell → Cell → Bool
kept gone c = not (is_cell_among c gone)

-- what is true when denied is not true
not_false : (b : Bool) → not b ≡ true → b ≡ true → ⊥
not_false true e f = absurd (cc e)
not_false false e f = absurd (cc f)

-- a cell that is none of the gone ones passes
pub kept_true : (gone : List Cell) (c : Cell) → (IsIn c gone → ⊥) → kept gone c ≡ true
kept_true gone c n = by (is_cell_among c gone) refl
  where
    by : (b : Bool) → is_cell_among c gone ≡ b → not b ≡ true
    by true e = absurd (n (among_from c gone e))
    by false e = refl

-- an exchanged list is in order
pub swapped_sorted : (g b : ℕ) (gone fresh l : List Cell) → IsStrictlySortedBy cell_cmp l →
    IsStrictlySortedBy cell_cmp (swapped g b gone fresh l)
unfolding swapped
swapped_sorted g b gone fresh l s =
    withs_sorted (filter (touches g b) fresh) (without_cells (filter (touches g b) gone) l)
    (IsStrictlySortedBy-filter cell_cmp (kept (filter (touches g b) gone)) l s)

-- its members: the fresh cells that touch the bucket, and those that were there and are not gone
pub swapped_from : (g b : ℕ) (gone fresh l : List Cell) (x : Cell) → IsIn x (swapped g b gone fresh l) →
    (IsIn x fresh × (touches g b x ≡ true)) ⊎ (IsIn x l × (IsIn x gone → touches g b x ≡ true → ⊥))
unfolding swapped
swapped_from g b gone fresh l x m = elim (in_withs (filter (touches g b) fresh)
    (without_cells (filter (touches g b) gone) l) x m) [
      | inl k ↦ inl (filtered_from (touches g b) fresh x k)
      | inr k ↦ (let r = filtered_from (kept (filter (touches g b) gone)) l x k in
          inr (
            r.0,
            λ i t. not_false (is_cell_among x (filter (touches g b) gone)) r.1
                (among_true x (filter (touches g b) gone) (filtered_true (touches g b) gone x i t)),
          ))
    ]

-- a fresh cell that touches the bucket is there after the exchange
pub swapped_new : (g b : ℕ) (gone fresh l : List Cell) (x : Cell) → IsIn x fresh → touches g b x ≡ true →
    IsIn x (swapped g b gone fresh l)
unfolding swapped
swapped_new g b gone fresh l x m t = withs_new (filter (touches g b) fresh)
    (without_cells (filter (touches g b) gone) l) x (filtered_true (touches g b) fresh x m t)

-- so is a cell that was there and is none of the gone ones
pub swapped_old : (g b : ℕ) (gone fresh l : List Cell) (x : Cell) → IsIn x l → (IsIn x gone → ⊥) →
    IsIn x (swapped g b gone fresh l)
unfolding swapped
swapped_old g b gone fresh l x m n =
    withs_old (filter (touches g b) fresh) (without_cells (filter (touches g b) gone) l) x
    (filtered_true (kept (filter (touches g b) gone)) l x m
    (kept_true (filter (touches g b) gone) x (λ i. n (filtered_from (touches g b) gone x i).0)))

-- and so is one that was there and is gone only from other buckets
pub swapped_kept : (g b : ℕ) (gone fresh l : List Cell) (x : Cell) → IsIn x l →
    (IsIn x gone → touches g b x ≡ true → ⊥) → IsIn x (swapped g b gone fresh l)
unfolding swapped
swapped_kept g b gone fresh l x m n =
    withs_old (filter (touches g b) fresh) (without_cells (filter (touches g b) gone) l) x
    (filtered_true (kept (filter (touches g b) gone)) l x m
    (kept_true (filter (touches g b) gone) x (λ i. (let r = filtered_from (touches g b) gone x i in n r.0 r.1))))

-- a list that no cell of the exchange touches stays
pub swapped_none : (g b : ℕ) (gone fresh l : List Cell) → ((c : Cell) → IsIn c gone → touches g b c ≡ false) →
    ((c : Cell) → IsIn c fresh → touches g b c ≡ false) → swapped g b gone fresh l ≡ l
unfolding swapped
swapped_none g b gone fresh l f h = rw (none fresh h) (rw (none gone f) (all l))
  where
    none : (m : List Cell) → ((c : Cell) → IsIn c m → touches g b c ≡ false) → filter (touches g b) m ≡ []
    none [] f = refl
    none (c ∷ m) f = rw (f c (inl refl)) (none m (λ d i. f d (inr i)))

    all : (l : List Cell) → without_cells [] l ≡ l
    all [] = refl
    all (c ∷ l) = ap (λ (t : List Cell). c ∷ t) (all l)

-- an exchange in a list that has the gone cells and none of the fresh ones is undone by the other one
pub swapped_back : (g b : ℕ) (gone fresh l : List Cell) → IsStrictlySortedBy cell_cmp l →
    ((c : Cell) → IsIn c gone → touches g b c ≡ true → IsIn c l) →
    ((c : Cell) → IsIn c fresh → touches g b c ≡ true → IsIn c l → ⊥) →
    swapped g b fresh gone (swapped g b gone fresh l) ≡ l
swapped_back g b gone fresh l s there absent =
    same_members (swapped g b fresh gone (swapped g b gone fresh l)) l
    (swapped_sorted g b fresh gone (swapped g b gone fresh l) (swapped_sorted g b gone fresh l s)) s forth back
  where
    forth : (c : Cell) → IsIn c (swapped g b fresh gone (swapped g b gone fresh l)) → IsIn c l
    forth c m = elim (swapped_from g b fresh gone (swapped g b gone fresh l) c m) [
      | inl k ↦ there c k.0 k.1
      | inr k ↦ elim (swapped_from g b gone fresh l c k.0) [ inl j ↦ absurd (k.1 j.0 j.1) | inr j ↦ j.0 ]
    ]

    kept_there : (c : Cell) → IsIn c l → (IsIn c gone → touches g b c ≡ true → ⊥) →
        IsIn c (swapped g b fresh gone (swapped g b gone fresh l))
    kept_there c m n = swapped_kept g b fresh gone (swapped g b gone fresh l) c (swapped_kept g b gone fresh l c m n)
        (λ i t. absent c i t m)

    back : (c : Cell) → IsIn c l → IsIn c (swapped g b fresh gone (swapped g b gone fresh l))
    back c m = elim (cell_in_or_not c gone) [
      | inl i ↦ by (touches g b c) refl i
      | inr n ↦ kept_there c m (λ i t. n i)
    ]
      where
        by : (t : Bool) → touches g b c ≡ t → IsIn c gone → IsIn c (swapped g b fresh gone (swapped g b gone fresh l))
        by true e i = swapped_new g b fresh gone (swapped g b gone fresh l) c i e
        by false e i = kept_there c m (λ j t. absurd (cc (sym e ∙ t)))
