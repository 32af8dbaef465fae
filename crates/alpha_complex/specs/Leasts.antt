-- The least alphas from which on a test passes. Every alpha is below 2^34.
use Rattle.std.specs.Prelude.{◌≡◌, ℕ, ◌<◌, ◌^◌, nat_le, Bool, true, List, [], map, slice_index_or, Option, None, Some}
use Rattle.std.specs.Prelude.{if◌then◌else◌}
use Rattle.std.specs.List.{AllZip, list_all, list_any}
use Rattle.std.specs.List.Sorted.{IsStrictlySortedBy}
use Rattle.std.specs.Ordering.{nat_cmp}
use Rattle.std.specs.Cmp.Lexicographic.{slice_cmp}
use Rattle.point_order.specs.declared.cell.Cell.{Cell}
use Rattle.alpha_complex.specs.declared.shape.Kind.{Kind}
use Rattle.alpha_complex.specs.declared.shape.Kind.TheVariants.{Singular, Regular, Interior}
use Rattle.alpha_complex.specs.declared.numbers.FaceAlphas.{FaceAlphas}
use Rattle.alpha_complex.specs.declared.numbers.Alphas.{Alphas}
use Rattle.alpha_complex.specs.declared.higher.HigherAlphas.{HigherAlphas}
use Rattle.alpha_complex.specs.Judged.{is_small_cell, is_admitted_triple, is_admitted_pair}

-- an alpha passes the test exactly where the number is at most it
abbrev pub IsLeastOf : (ℕ → Bool) → ℕ → Type 0
IsLeastOf test n = (alpha : ℕ) → alpha < 2 ^ 34 → test alpha ≡ nat_le n alpha

-- a number for each element of a list, the least alpha at which it passes the test
abbrev pub AreLeastOf : {X : Type 0} → (ℕ → X → Bool) → List X → List ℕ → Type 0
AreLeastOf test xs ns = AllZip (λ x n. IsLeastOf (λ alpha. test alpha x) n) xs ns

-- The numbers of a face, beside the cells that contain it: the least alpha at which it passes the test, at which some
-- of the cells is Full and within alpha, and at which all of them are.
pub record AreAlphasOf {X : Type 0} (admits : ℕ → X × List Cell → Bool) (f : X × List Cell)
    (a : FaceAlphas) : Type 0 where
  pub admitted : IsLeastOf (λ alpha. admits alpha f) a.admitted
  pub regular : IsLeastOf (λ alpha. list_any (is_small_cell alpha) f.1) a.regular
  pub interior : IsLeastOf (λ alpha. list_all (is_small_cell alpha) f.1) a.interior

-- the points of the faces are in order
abbrev pub AreOrdered : List (List ℕ × List Cell) → Type 0
AreOrdered faces = IsStrictlySortedBy (slice_cmp nat_cmp) (map (λ f. f.0) faces)

-- The numbers are those of the cells and of the triples of the faces, and the triples are in order.
pub record AreHigher (higher : HigherAlphas) : Type 0 where
  pub order : AreOrdered higher.faces.now.triples
  pub cells : AreLeastOf is_small_cell higher.faces.now.cells higher.cells.now
  pub triples : AreLeastOf is_admitted_triple higher.faces.now.triples higher.triples.now

-- a point is admitted at every alpha
abbrev pub is_admitted_point : ℕ → ℕ × List Cell → Bool
is_admitted_point alpha f = true

-- The numbers are those of the faces.
pub record AreKnown (known : Alphas) : Type 0 where
  pub pairs : AreLeastOf (is_admitted_pair known.faces.now.triples) known.faces.now.pairs known.pairs.items
  pub triples : AreLeastOf is_admitted_triple known.faces.now.triples known.triples.items
  pub cells : AreLeastOf is_small_cell known.faces.now.cells known.cells.items

-- the kind that the numbers of a face tell at an alpha
abbrev pub kind_at : FaceAlphas → ℕ → Kind
kind_at a alpha = if nat_le a.interior alpha then Interior else (if nat_le a.regular alpha then Regular else Singular)

-- and where it is admitted
abbrev pub kind_where : FaceAlphas → ℕ → Option Kind
kind_where a alpha = if nat_le a.admitted alpha then Some (kind_at a alpha) else None

-- the face of an index, beside the cells that contain it
abbrev pub face_at : List (List ℕ × List Cell) → ℕ → List ℕ × List Cell
face_at faces i = slice_index_or faces i ([], [])

-- and the point of an index
abbrev pub point_face_at : List (ℕ × List Cell) → ℕ → ℕ × List Cell
point_face_at points i = slice_index_or points i (0, [])
