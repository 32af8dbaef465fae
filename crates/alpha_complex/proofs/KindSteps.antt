-- The kinds that numbers of faces tell, and what slots of these kinds hold.
use Rattle.std.proofs.Common.{◌≡◌, refl, ap, ◌∙◌, ℕ, ◌<◌, ◌≤◌, ◌^◌, arith, inl, inr, Bool, true, false, List, [], ◌∷◌}
use Rattle.std.proofs.Common.{map, nat_le}
use Rattle.std.specs.Prelude.{zip}
use Rattle.std.specs.List.{filter, list_all, list_any}
use Rattle.std.proofs.lemmas.Bool.Decides.{nat_tests}
use Rattle.point_order.specs.declared.cell.Cell.{Cell}
use Rattle.point_order.specs.declared.cell.Cell.TheVariants.{Full, Open}
use Rattle.list_laws.proofs.Cited.{true_or_false}
use Rattle.face_list.specs.Faces.{full_cells}
use Rattle.alpha_complex.specs.declared.shape.Kind.{Kind}
use Rattle.alpha_complex.specs.declared.numbers.FaceAlphas.{FaceAlphas}
use Rattle.alpha_complex.specs.Admitted.{is_within, kind_by}
use Rattle.alpha_complex.specs.Judged.{is_small_cell, kinds_by}
use Rattle.alpha_complex.specs.Leasts.{AreAlphasOf, AreLeastOf, kind_at}
use Rattle.alpha_complex.specs.Kinds.{kind_if, kind_of}
use Rattle.alpha_complex.specs.Slots.{slots_of, cell_slots_of}
use Rattle.list_laws.specs.Lists.{held}

-- a number that is at most another
pub le_true : (m n : ℕ) → m ≤ n → nat_le m n ≡ true
le_true m n l = grind (arith, nat_tests)

-- and one that is greater
pub le_false : (m n : ℕ) → n < m → nat_le m n ≡ false
le_false m n l = grind (arith, nat_tests)

-- the numbers of a face tell its kind
pub kind_told : {X : Type 0} (admits : ℕ → X × List Cell → Bool) (f : X × List Cell) (a : FaceAlphas) (alpha : ℕ) →
    alpha < 2 ^ 34 → AreAlphasOf admits f a → kind_at a alpha ≡ kind_by (is_small_cell alpha) f.1
kind_told admits f a alpha l h =
    let p : list_all (is_small_cell alpha) f.1 ≡ nat_le a.interior alpha = h.interior alpha l in
    let q : list_any (is_small_cell alpha) f.1 ≡ nat_le a.regular alpha = h.regular alpha l in
    rw (p, q) refl

-- all faces with their kinds
pub all_told : {X : Type 0} (alpha : ℕ) (faces : List (X × List Cell)) →
    zip (map (λ f. f.0) faces) (map (kind_of alpha) faces) ≡ kinds_by alpha faces
all_told alpha [] = refl
all_told {X} alpha (f ∷ faces) =
    ap (λ (v : List (X × Kind)). (f.0, kind_by (is_small_cell alpha) f.1) ∷ v) (all_told alpha faces)

-- those that pass a test
pub admitted_told : {X : Type 0} (test : ℕ → X × List Cell → Bool) (alpha : ℕ) (faces : List (X × List Cell)) →
    held (slots_of (map (λ f. f.0) faces) (map (kind_if test alpha) faces)) ≡ kinds_by alpha
    (filter (test alpha) faces)
admitted_told test alpha [] = refl
admitted_told {X} test alpha (f ∷ faces) =
    let more = admitted_told test alpha faces in
    elim (true_or_false (test alpha f)) [
      | inl t ↦ rw t (ap (λ (v : List (X × Kind)). (f.0, kind_by (is_small_cell alpha) f.1) ∷ v) more)
      | inr t ↦ rw t more
    ]

-- the Full cells that are within alpha
pub cells_told :
    (alpha : ℕ) (cells : List Cell) (leasts : List ℕ) → alpha < 2 ^ 34 → AreLeastOf is_small_cell cells leasts →
    held (cell_slots_of cells (map (λ n. nat_le n alpha) leasts)) ≡ filter (is_within alpha) (full_cells cells)
cells_told alpha [] leasts l z = refl
cells_told alpha (c ∷ cells) [] l z = absurd z
cells_told alpha (Open t ∷ cells) (n ∷ leasts) l z = cells_told alpha cells leasts l z.1
cells_told alpha (Full q ∷ cells) (n ∷ leasts) l z =
    let more = cells_told alpha cells leasts l z.1 in
    elim (true_or_false (nat_le n alpha)) [
      | inl t ↦ (
          let p : is_within alpha q ≡ true = z.0 alpha l ∙ t in
          rw (t, p) (ap (λ (v : List (List ℕ)). q ∷ v) more))
      | inr t ↦ (
          let p : is_within alpha q ≡ false = z.0 alpha l ∙ t in
          rw (t, p) more)
    ]
