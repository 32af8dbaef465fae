-- What the least alphas of a complex tell of it.
use Rattle.std.specs.Prelude.{◌≡◌, ℕ, ◌<◌, ◌^◌, List}
use Rattle.std.specs.List.{list_all, list_any}
use Rattle.point_order.specs.Complex.{complex}
use Rattle.face_list.specs.Faces.{cells_with, parts_in}
use Rattle.alpha_complex.specs.declared.numbers.FaceAlphas.{FaceAlphas}
use Rattle.alpha_complex.specs.declared.numbers.Alphas.{Alphas}
use Rattle.alpha_complex.specs.Admitted.{is_admitted, is_admitted_cell, kind}
use Rattle.alpha_complex.specs.Leasts.{AreLeastOf, IsLeastOf, kind_at}

-- The face of the complex of s is admitted exactly at the alphas from its number on; some, and all, of the cells that
-- contain it are from the other two on, and so its numbers tell its kind.
pub record TellsFace (s face : List ℕ) (a : FaceAlphas) : Type 0 where
  pub admitted : IsLeastOf (λ alpha. is_admitted s alpha face) a.admitted
  pub regular : IsLeastOf (λ alpha. list_any (is_admitted_cell s alpha) (cells_with face (complex s))) a.regular
  pub interior : IsLeastOf (λ alpha. list_all (is_admitted_cell s alpha) (cells_with face (complex s))) a.interior
  pub kind : (alpha : ℕ) → alpha < 2 ^ 34 → kind_at a alpha ≡ kind s alpha face

-- The numbers tell from which alpha on each pair, triple and cell of the complex of s is admitted.
pub record TellsFaces (s : List ℕ) (known : Alphas) : Type 0 where
  pub pairs : AreLeastOf (is_admitted s) (parts_in 2 (complex s)) known.pairs.items
  pub triples : AreLeastOf (is_admitted s) (parts_in 3 (complex s)) known.triples.items
  pub cells : AreLeastOf (is_admitted_cell s) (complex s) known.cells.items
