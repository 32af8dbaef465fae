-- Marks of numbers, and of cells.
use Rattle.std.specs.Prelude.{◌≡◌, ℕ, ◌+◌, ◌%◌, ◌<◌, ◌≤◌, Bool, true, false, List, drop, length, slice_index_or}
use Rattle.std.specs.Prelude.{slice_set}
use Rattle.std.proofs.Common.{refl, sym, subst, ◌∙◌, arith, inl, inr, take}
use Rattle.std.proofs.lemmas.Bool.{cases_eq}
use Rattle.std.proofs.lemmas.List.{get_or-set_same, get_or-set_other}
use Rattle.std.proofs.Math.ListN.{length-set}
use Rattle.list_laws.proofs.Cited.{among_from, each_more, each_none, each_taken}
use Rattle.point_order.specs.declared.cell.Cell.{Cell}
use Rattle.point_order.specs.Sets.{is_among}
use Rattle.cell_stars.specs.Swaps.{Differ}
use Rattle.cell_stars.specs.Moves.{AreCellsMarked, AreMarked}

-- of no number yet none needs a mark
pub marked_none : (marks list : List ℕ) → length marks ≡ 2048 → AreMarked marks (take 0 list)
marked_none marks list e = record { count = e; each = each_none (λ i. 0 < slice_index_or marks (i % 2048) 0) list }

-- with the mark of the next number all so far are marked
pub marked_more : (marks list : List ℕ) (n x m : ℕ) → n < length list → x ≡ slice_index_or list n 0 → 0 < m →
    AreMarked marks (take n list) → AreMarked (slice_set marks (x % 2048) m) (take (n + 1) list)
marked_more marks list n x v h e pos m = record {
  count = length-set marks (x % 2048) v ∙ m.count;
  each = each_more (λ i. 0 < slice_index_or (slice_set marks (x % 2048) v) (i % 2048) 0) list n x 0 h e
      (λ y k. kept y (m.each y k)) here;
}
  where
    is : slice_index_or (slice_set marks (x % 2048) v) (x % 2048) 0 ≡ v
    is = get_or-set_same marks (x % 2048) v 0 (let c = m.count in omega (arith, c))

    here : 0 < slice_index_or (slice_set marks (x % 2048) v) (x % 2048) 0
    here = subst (λ (k : ℕ). 0 < k) (sym is) pos

    kept : (y : ℕ) → 0 < slice_index_or marks (y % 2048) 0 →
        0 < slice_index_or (slice_set marks (x % 2048) v) (y % 2048) 0
    kept y k = elim (cases_eq (y % 2048) (x % 2048)) [
      | inl w ↦ subst (λ (i : ℕ). 0 < slice_index_or (slice_set marks (x % 2048) v) i 0) (sym w) here
      | inr w ↦ subst (λ (i : ℕ). 0 < i) (sym (get_or-set_other marks (x % 2048) (y % 2048) v 0 w)) k
    ]

-- at the end all are
pub marked_all : (marks list : List ℕ) (n : ℕ) → length list ≤ n → AreMarked marks (take n list) → AreMarked marks list
marked_all marks list n h m = record {
  count = m.count;
  each = each_taken (λ i. 0 < slice_index_or marks (i % 2048) 0) list n h m.each;
}

-- a number without a mark is not in the list
pub not_marked : (marks list : List ℕ) (i : ℕ) → AreMarked marks list → slice_index_or marks (i % 2048) 0 ≡ 0 →
    false ≡ is_among i list
not_marked marks list i m e = by (is_among i list) refl
  where
    by : (t : Bool) → is_among i list ≡ t → false ≡ t
    by false q = refl
    by true q = (let k = m.each i (among_from i list q) in absurd (omega (arith, e, k)))

-- from a place on the cells differ and have their marks
pub record AreApartFrom (list : List Cell) (k : ℕ) (marks : List Bool) : Type 0 where
  pub marked : AreCellsMarked marks (drop k list)
  pub apart : Differ (drop k list)
