-- Quadruples and triples, each in order, as one list of cells.
use Rattle.std.specs.Prelude.{◌≡◌, ◌+◌, ◌-◌, ◌<◌, ◌≤◌, ◌⊎◌, [], ◌∷◌, length, slice_index_or, refl, ℕ, zero, suc, List}
use Rattle.std.specs.Prelude.{map}
use Rattle.std.specs.List.{AllAdjacentBelow}
use Rattle.std.specs.List.Sorted.{IsStrictlySortedBy}
use Rattle.std.specs.Cmp.Lexicographic.{slice_cmp}
use Rattle.std.specs.Ordering.{nat_cmp}
use Rattle.std.specs.declared.cmp.Ordering.TheVariants.{Less}
use Rattle.std.proofs.Common.{ap, arith, inl, inr, subst, ◌∙◌}
use Rattle.list_laws.proofs.Cited.{from_append, mapped_from, rises, sorted_append, sorted_map, within_list}
use Rattle.point_order.specs.declared.cell.Cell.{Cell}
use Rattle.point_order.specs.declared.cell.Cell.TheVariants.{Full, Open}
use Rattle.point_order.specs.CellOrder.{cell_cmp}
use Rattle.point_order.specs.Sets.{IsIn, IsAscending}
use Rattle.point_order.specs.Facets.{points_of}
use Rattle.mesh_check.specs.Flaws.{as_cells}
use Rattle.mesh_check.specs.Laws.{AreCells}

-- a fact of all listed cells
of_each : (P : Cell → Type 0) (cells hull : List (List ℕ)) → ((q : List ℕ) → IsIn q cells → P (Full q)) →
    ((t : List ℕ) → IsIn t hull → P (Open t)) → (c : Cell) → IsIn c (as_cells cells hull) → P c
of_each P cells hull f g c m = elim (from_append c (map Full cells) (map Open hull) m) [
  | inl k ↦ let w = mapped_from Full c cells k in subst P w.2 (f w.0 w.1)
  | inr k ↦ let w = mapped_from Open c hull k in subst P w.2 (g w.0 w.1)
]

-- Full cells come first
full_first : (cells hull : List (List ℕ)) (x y : Cell) → IsIn x (map Full cells) → IsIn y (map Open hull)
    → cell_cmp x y ≡ Less
full_first cells hull x y m n =
    let v = mapped_from Full x cells m in
    let w = mapped_from Open y hull n in
    subst (λ c. cell_cmp c y ≡ Less) v.2 (subst (λ c. cell_cmp (Full v.0) c ≡ Less) w.2 refl)

-- they are as the check asks for
pub cells_listed : (s : List ℕ) (cells hull : List (List ℕ)) → IsStrictlySortedBy (slice_cmp nat_cmp) cells
    → IsStrictlySortedBy (slice_cmp nat_cmp) hull
    → ((q : List ℕ) → IsIn q cells → IsAscending q) → ((t : List ℕ) → IsIn t hull → IsAscending t)
    → ((q : List ℕ) → IsIn q cells → (p : ℕ) → IsIn p q → IsIn p s) → ((t : List ℕ) → IsIn t hull → (p : ℕ) → IsIn p t
    → IsIn p s)
    → AreCells s (as_cells cells hull)
cells_listed s cells hull cs hs ca ha ci hi = record {
  sorted = sorted_append cell_cmp (map Full cells) (map Open hull)
      (sorted_map (slice_cmp nat_cmp) cell_cmp Full cells cs (λ x y e. e))
      (sorted_map (slice_cmp nat_cmp) cell_cmp Open hull hs (λ x y e. e)) (full_first cells hull);
  ascending = of_each (λ c. IsAscending (points_of c)) cells hull ca ha;
  inside = of_each (λ c. (p : ℕ) → IsIn p (points_of c) → IsIn p s) cells hull ci hi;
}

-- a list each element of which is below the next ascends
pub ascends : (l : List ℕ) → AllAdjacentBelow (λ x y. x < y) l (length l) → IsAscending l
ascends [] all = tt
ascends (x ∷ []) all = (tt, tt)
ascends (x ∷ y ∷ l) all = (
  all 0 0 (omega arith),
  ascends (y ∷ l) (λ k d h. next k d (all (suc k) d (omega (arith, h)))),
)
  where
    -- a place more in front
    next : (k d : ℕ) → slice_index_or (y ∷ l) k d < slice_index_or (x ∷ y ∷ l) (suc k + 1) d →
        slice_index_or (y ∷ l) k d < slice_index_or (y ∷ l) (k + 1) d
    next k d h =
        let one : suc k + 1 ≡ suc (k + 1) = omega arith in
        subst (λ (n : ℕ). slice_index_or (y ∷ l) k d < slice_index_or (x ∷ y ∷ l) n d) one h

-- one place more was looked at
pub next_below : (l : List ℕ) (i x y : ℕ) → AllAdjacentBelow (λ x y. x < y) l i → 1 ≤ i → i < length l →
    x ≡ slice_index_or l (i - 1) x → y ≡ slice_index_or l i y → x < y → AllAdjacentBelow (λ x y. x < y) l (i + 1)
next_below l i x y all one h a b less k d low = elim (le_or (k + 1) i low) [
  | inl j ↦ all k d j
  | inr e ↦
      let at : k ≡ i - 1 = omega (arith, e) in
      let first : slice_index_or l k d ≡ x = ap (λ (n : ℕ). slice_index_or l n d) at
      ∙ within_list l (i - 1) x d (omega (arith, h)) a in
      let second : slice_index_or l (k + 1) d ≡ y = ap (λ (n : ℕ). slice_index_or l n d) e ∙ within_list l i y d h b in
      rw (first, second) less
]
  where
    -- below, or the same
    le_or : (m n : ℕ) → m < n + 1 → (m < n) ⊎ (m ≡ n)
    le_or zero zero h = inr refl
    le_or zero (suc n) h = inl (omega arith)
    le_or (suc m) zero h = absurd (let g : ⊥ = omega (arith, h) in g)
    le_or (suc m) (suc n) h = elim (le_or m n (omega (arith, h))) [
      | inl k ↦ inl (omega (arith, k))
      | inr e ↦ inr (ap suc e)
    ]

-- and where one is not, the list does not ascend
pub falls_there : (l : List ℕ) (i x y : ℕ) → 1 ≤ i → i < length l → x ≡ slice_index_or l (i - 1) x
    → y ≡ slice_index_or l i y → y ≤ x → ¬ (IsAscending l)
falls_there l i x y one h a b less up =
    let rise : slice_index_or l (i - 1) x < slice_index_or l i x = rises l (i - 1) i x up (omega arith) h in
    let second : slice_index_or l i x ≡ y = within_list l i y x h b in
    absurd (omega (arith, rise, a, second, less))
