-- The kinds of faces at an alpha, by the cells within alpha.
use Rattle.std.specs.Prelude.{ℕ, ◌<◌, ◌^◌, Bool, List, Option, None, Some, if◌then◌else◌}
use Rattle.point_order.specs.declared.cell.Cell.{Cell}
use Rattle.face_list.specs.Seen.{FaceLists}
use Rattle.alpha_complex.specs.declared.kinds.Level.{Level}
use Rattle.alpha_complex.specs.declared.kinds.Part.{Part}
use Rattle.alpha_complex.specs.declared.kinds.Part.TheVariants.{Pairs, Triples}
use Rattle.alpha_complex.specs.declared.shape.Kind.{Kind}
use Rattle.alpha_complex.specs.Admitted.{kind_by}
use Rattle.alpha_complex.specs.Judged.{is_small_cell, is_admitted_triple, is_admitted_pair}
use Rattle.alpha_complex.specs.Leasts.{AreLeastOf}

-- The numbers are those of the cells of the faces, and alpha is one.
pub record IsLevel (level : Level) : Type 0 where
  pub cells : AreLeastOf is_small_cell level.faces.now.cells level.cells.now
  pub alpha : level.alpha < 2 ^ 34

-- the pairs or the triples
abbrev pub faces_of_part : Part → FaceLists → List (List ℕ × List Cell)
faces_of_part Pairs faces = faces.pairs
faces_of_part Triples faces = faces.triples

-- which of them are admitted
abbrev pub admits : Part → FaceLists → ℕ → List ℕ × List Cell → Bool
admits Pairs faces = is_admitted_pair faces.triples
admits Triples faces = is_admitted_triple

-- the numbers are the least alphas at which they are
abbrev pub AreLeastOfPart : Part → FaceLists → List ℕ → Type 0
AreLeastOfPart part faces ns = AreLeastOf (admits part faces) (faces_of_part part faces) ns

-- the kind of a face
abbrev pub kind_of : {X : Type 0} → ℕ → X × List Cell → Kind
kind_of alpha f = kind_by (is_small_cell alpha) f.1

-- and where it passes a test
abbrev pub kind_if : {X : Type 0} → (ℕ → X × List Cell → Bool) → ℕ → X × List Cell → Option Kind
kind_if test alpha f = if test alpha f then Some (kind_of alpha f) else None

-- so of a pair or a triple that is admitted
abbrev pub part_kind : Part → FaceLists → ℕ → List ℕ × List Cell → Option Kind
part_kind part faces alpha f = kind_if (admits part faces) alpha f
