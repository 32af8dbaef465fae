-- The kinds of the cells of a complex: the Full ones come first, so each has one number in both lists.
use Rattle.std.proofs.Common.{◌≡◌, ℕ, zero, suc, ◌<◌, ◌≤◌, ◌++◌, refl, sym, ap, subst, inl, inr, arith, List, [], ◌∷◌}
use Rattle.std.proofs.Common.{length, map}
use Rattle.std.specs.Prelude.{slice_index_or}
use Rattle.std.specs.List.{filter}
use Rattle.point_order.specs.declared.cell.Cell.{Cell}
use Rattle.point_order.specs.declared.cell.Cell.TheVariants.{Full, Open}
use Rattle.point_order.specs.Complex.{complex, is_full, is_open}
use Rattle.point_order.specs.Subsets.{subsets}
use Rattle.point_order.specs.Sets.{IsIn}
use Rattle.del_laws.proofs.Cited.{not_both_kinds, same_full, same_open}
use Rattle.face_list.specs.Faces.{full_cells}
use Rattle.face_list.specs.Tables.{cell_at}
use Rattle.mesh_rows.specs.Rows.{open_cells}
use Rattle.mesh_rows.specs.Across.{full_at}
use Rattle.mesh_rows.specs.Linked.{AreOfComplex}

-- Full cells, and then Open ones
abbrev pub kinds : List (List ℕ) → List (List ℕ) → List Cell
kinds fulls opens = map Full fulls ++ map Open opens

-- a complex is such a list
pub complex_kinds : (s : List ℕ) →
    complex s ≡ kinds (filter (is_full s) (subsets 4 s)) (filter (is_open s) (subsets 3 s))
unfolding complex
complex_kinds s = refl

-- its Full cells
pub fulls_of : (fulls opens : List (List ℕ)) → full_cells (kinds fulls opens) ≡ fulls
fulls_of [] [] = refl
fulls_of [] (t ∷ opens) = fulls_of [] opens
fulls_of (q ∷ fulls) opens = ap (λ (l : List (List ℕ)). q ∷ l) (fulls_of fulls opens)

-- and its Open ones
pub opens_of : (fulls opens : List (List ℕ)) → open_cells (kinds fulls opens) ≡ opens
opens_of [] [] = refl
opens_of [] (t ∷ opens) = ap (λ (l : List (List ℕ)). t ∷ l) (opens_of [] opens)
opens_of (q ∷ fulls) opens = opens_of fulls opens

-- a Full cell stands at the same place among the Full ones
pub full_place : (fulls opens : List (List ℕ)) (m : ℕ) (q : List ℕ) → m < length (kinds fulls opens) →
    cell_at (kinds fulls opens) m ≡ Full q → (m < length fulls) × (slice_index_or fulls m [] ≡ q)
full_place [] [] m q h e = absurd (omega (arith, h))
full_place [] (t ∷ opens) zero q h e = absurd (not_both_kinds q t (sym e))
full_place [] (t ∷ opens) (suc m) q h e =
    let r = (full_place [] opens m q (omega (arith, h)) e).0 in absurd (omega (arith, r))
full_place (x ∷ fulls) opens zero q h e = (omega arith, same_full x q e)
full_place (x ∷ fulls) opens (suc m) q h e =
    let r = full_place fulls opens m q (omega (arith, h)) e in
    let b = r.0 in (omega (arith, b), r.1)

-- an Open cell is one of the Open ones
pub open_place : (fulls opens : List (List ℕ)) (m : ℕ) (t : List ℕ) → m < length (kinds fulls opens) →
    cell_at (kinds fulls opens) m ≡ Open t → IsIn t opens
open_place [] [] m t h e = absurd (omega (arith, h))
open_place [] (u ∷ opens) zero t h e = inl (same_open u t e)
open_place [] (u ∷ opens) (suc m) t h e = inr (open_place [] opens m t (omega (arith, h)) e)
open_place (x ∷ fulls) opens zero t h e = absurd (not_both_kinds x t e)
open_place (x ∷ fulls) opens (suc m) t h e = open_place fulls opens m t (omega (arith, h)) e

-- at the first places Full cells stand
pub full_here : (fulls opens : List (List ℕ)) (m : ℕ) → m < length fulls →
    cell_at (kinds fulls opens) m ≡ Full (slice_index_or fulls m [])
full_here [] opens m h = absurd (omega (arith, h))
full_here (x ∷ fulls) opens zero h = refl
full_here (x ∷ fulls) opens (suc m) h = full_here fulls opens m (omega (arith, h))

-- no more cells are Full than there are
pub fewer_full : (cells : List Cell) → length (full_cells cells) ≤ length cells
fewer_full [] = omega arith
fewer_full (Full q ∷ cells) = let r = fewer_full cells in omega (arith, r)
fewer_full (Open t ∷ cells) = let r = fewer_full cells in omega (arith, r)

-- Full and Open cells that a list has in this order
pub record HasKinds (cells : List Cell) : Type 0 where
  pub fulls : List (List ℕ)
  pub opens : List (List ℕ)
  pub is : cells ≡ kinds fulls opens
  pub fulls_are : full_cells cells ≡ fulls
  pub opens_are : open_cells cells ≡ opens

-- so has a complex
pub kinds_of : (cells : List Cell) → AreOfComplex cells → HasKinds cells
kinds_of cells k =
    let s = k.0 in
    let a = filter (is_full s) (subsets 4 s) in
    let b = filter (is_open s) (subsets 3 s) in
    subst HasKinds (sym k.2) (subst HasKinds (sym (complex_kinds s)) (record {
      fulls = a;
      opens = b;
      is = refl;
      fulls_are = fulls_of a b;
      opens_are = opens_of a b;
    }))

-- of a complex: a Full cell has its number among the Full ones
pub full_number : (cells : List Cell) → AreOfComplex cells → (m : ℕ) (q : List ℕ) → m < length cells →
    cell_at cells m ≡ Full q → (m < length (full_cells cells)) × (full_at cells m ≡ q)
full_number cells k m q h e =
    let r = kinds_of cells k in
    let p = full_place r.fulls r.opens m q (subst (λ (l : List Cell). m < length l) r.is h)
    (subst (λ (l : List Cell). cell_at l m ≡ Full q) r.is e) in
    subst (λ (l : List (List ℕ)). (m < length l) × (slice_index_or l m [] ≡ q)) (sym r.fulls_are) p

-- of a complex: an Open cell is one of the Open ones
pub open_listed : (cells : List Cell) → AreOfComplex cells → (m : ℕ) (t : List ℕ) → m < length cells →
    cell_at cells m ≡ Open t → IsIn t (open_cells cells)
open_listed cells k m t h e =
    let r = kinds_of cells k in
    subst (λ (l : List (List ℕ)). IsIn t l) (sym r.opens_are) (open_place r.fulls r.opens m t
    (subst (λ (l : List Cell). m < length l) r.is h) (subst (λ (l : List Cell). cell_at l m ≡ Open t) r.is e))

-- of a complex: the Full cell of a number
pub full_at_number : (cells : List Cell) → AreOfComplex cells → (n : ℕ) → n < length (full_cells cells) →
    cell_at cells n ≡ Full (full_at cells n)
full_at_number cells k n h =
    let r = kinds_of cells k in
    let p = full_here r.fulls r.opens n (subst (λ (l : List (List ℕ)). n < length l) r.fulls_are h) in
    subst (λ (l : List Cell). cell_at l n ≡ Full (full_at cells n)) (sym r.is)
    (subst (λ (l : List (List ℕ)). cell_at (kinds r.fulls r.opens) n ≡ Full (slice_index_or l n []))
    (sym r.fulls_are) p)
