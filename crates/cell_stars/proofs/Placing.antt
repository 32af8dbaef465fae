-- Where a bucket stands, and the list of its cells.
use Rattle.std.specs.Prelude.{◌≡◌, ℕ, suc, List, [], ◌∷◌, ◌++◌, ◌⊎◌, Option, None, Some, IsPermutation}
use Rattle.std.specs.Ordering.{match_ordering}
use Rattle.std.specs.declared.cmp.Ordering.{Ordering}
use Rattle.std.specs.declared.cmp.Ordering.TheVariants.{Less, Equal, Greater}
use Rattle.std.proofs.Common.{refl, sym, ◌∙◌, ap, subst, inl, inr, arith}
use Rattle.std.proofs.lemmas.List.Sorted.{IsPermutation-refl, IsPermutation-cons, IsPermutation-trans}
use Rattle.std.proofs.lemmas.List.Sorted.{IsPermutation-middle, IsPermutation-append_right}
use Rattle.point_order.proofs.Cited.{cell_same}
use Rattle.point_order.specs.declared.cell.Cell.{Cell}
use Rattle.point_order.specs.CellOrder.{cell_cmp}
use Rattle.point_order.specs.Sets.{IsIn}
use Rattle.cell_stars.specs.Swaps.{Differ, with_cell, with_all_cells}
use Rattle.cell_stars.specs.Places.{Placed, AreStars, IsPlaceAround, live, cells_of, lies_in, touches_in, at_slot}
use Rattle.cell_stars.proofs.CellLaws.{in_with}
use Rattle.cell_stars.proofs.Least.{at_live}

-- a bucket that has not stood anywhere has no cells
pub stands_new : (w : ℕ × ℕ) (b : Placed) → b.place ≡ None → AreStars b → AreStars (record b { place = Some w })
stands_new w b e s = record {
  order = s.order;
  names = λ p i m. absurd (none p (s.names p i m));
  listed = λ p i c q m n. absurd (free i c q);
  filled = s.filled;
  once = s.once;
  touching = λ i c q. absurd (free i c q);
}
  where
    none : (p : ℕ) {i : ℕ} → IsPlaceAround b.place b.slots p i → ⊥
    none p n = (let t = ap (λ o. lies_in o p) (sym e) ∙ n.inside in absurd (cc t))

    free : (i : ℕ) (c : Cell) → at_slot b.slots i ≡ Some c → ⊥
    free i c q = (let t = ap (λ o. touches_in o c) (sym e) ∙ s.touching i c q in absurd (cc t))

-- so it is where a bucket is new or stands there already
pub stands_at : (w : ℕ × ℕ) (b : Placed) → (b.place ≡ None) ⊎ (b.place ≡ Some w) → AreStars b →
    AreStars (record b { place = Some w })
stands_at w b (inl e) s = stands_new w b e s
stands_at w b (inr e) s = subst (λ o. AreStars (record b { place = o })) e s

-- ---- the list of the cells

-- where no cell stands at two places, the cells of the places differ
all_differ : (slots : List (Option Cell)) →
    ((i j : ℕ) (c : Cell) → at_slot slots i ≡ Some c → at_slot slots j ≡ Some c → i ≡ j) →
    Differ (live slots)
all_differ [] o = tt
all_differ (None ∷ l) o = all_differ l (λ i j c p q. (let e = o (suc i) (suc j) c p q in omega (arith, e)))
all_differ (Some c ∷ l) o = (
  λ m. (let t = at_live l c m in let e = o 0 (suc t.0) c refl t.1 in
      absurd (omega (arith, e))),
  all_differ l (λ i j d p q. (let e = o (suc i) (suc j) d p q in omega (arith, e))),
)

-- one more cell, somewhere
one_more : (c : Cell) (l : List Cell) → (IsIn c l → ⊥) → IsPermutation (with_cell c l) (c ∷ l)
one_more c [] n = IsPermutation-refl (c ∷ [])
one_more c (d ∷ l) n = by (cell_cmp c d) refl (λ k. one_more c l k)
  where
    by : (o : Ordering) → cell_cmp c d ≡ o → ((IsIn c l → ⊥) → IsPermutation (with_cell c l) (c ∷ l)) →
        IsPermutation (match_ordering o (c ∷ d ∷ l) (d ∷ l) (d ∷ with_cell c l)) (c ∷ d ∷ l)
    by Less e r = IsPermutation-refl (c ∷ d ∷ l)
    by Equal e r = absurd (n (inl (sym (cell_same c d e))))
    by Greater e r = IsPermutation-trans (d ∷ with_cell c l) (d ∷ c ∷ l) (c ∷ d ∷ l)
        (IsPermutation-cons d (with_cell c l) (c ∷ l) (r (λ m. n (inr m)))) (IsPermutation-middle (d ∷ []) c l)

-- so it is with several cells more
more : (cs l : List Cell) → Differ cs → ((c : Cell) → IsIn c cs → IsIn c l → ⊥) →
    IsPermutation (with_all_cells cs l) (cs ++ l)
more [] l f n = IsPermutation-refl l
more (c ∷ cs) l f n =
    IsPermutation-trans (with_all_cells cs (with_cell c l)) (cs ++ with_cell c l) (c ∷ (cs ++ l))
    (more cs (with_cell c l) f.1 apart)
    (IsPermutation-trans (cs ++ with_cell c l) (cs ++ c ∷ l) (c ∷ (cs ++ l))
    (IsPermutation-append_right cs (with_cell c l) (c ∷ l) (one_more c l (n c (inl refl))))
    (IsPermutation-middle cs c l))
  where
    apart : (d : Cell) → IsIn d cs → IsIn d (with_cell c l) → ⊥
    apart d i m = elim (in_with c d l m) [
      | inl e ↦ f.0 (subst (λ (x : Cell). IsIn x cs) (sym e) i)
      | inr k ↦ n d (inr i)
          k
    ]

-- nothing behind a list leaves it
without_end : (l : List Cell) → l ++ [] ≡ l
without_end [] = refl
without_end (c ∷ l) = ap (λ (m : List Cell). c ∷ m) (without_end l)

-- the cells of the places, each once
pub all_once : (b : Placed) → AreStars b → IsPermutation (cells_of b.slots) (live b.slots)
unfolding cells_of
all_once b s = subst (IsPermutation (with_all_cells (live b.slots) [])) (without_end (live b.slots))
    (more (live b.slots) [] (all_differ b.slots s.once) (λ c i m. m))
