-- The numbers of faces by the cells around them, as private functions speak of them.
use Rattle.std.specs.Prelude.{◌≡◌, ℕ, ◌<◌, Bool, List, [], length, slice_index_or}
use Rattle.std.specs.List.{list_all, list_any}
use Rattle.point_order.specs.declared.cell.Cell.{Cell}
use Rattle.face_list.specs.declared.table.Table.{Table}
use Rattle.face_list.specs.Tables.{cells_numbered, stretches}
use Rattle.alpha_complex.specs.declared.numbers.FaceAlphas.{FaceAlphas}
use Rattle.alpha_complex.specs.Leasts.{AreLeastOf, IsLeastOf}

-- whatever test the numbers of cells are the least alphas of, from n on some of the cells of some numbers pass it
abbrev pub AreLeastOfSome : List ℕ → List ℕ → ℕ → Type 0
AreLeastOfSome leasts around n = (cells : List Cell) (test : ℕ → Cell → Bool) → AreLeastOf test cells leasts →
    IsLeastOf (λ alpha. list_any (test alpha) (cells_numbered cells around)) n

-- and from n on all of them do
abbrev pub AreLeastOfAll : List ℕ → List ℕ → ℕ → Type 0
AreLeastOfAll leasts around n = (cells : List Cell) (test : ℕ → Cell → Bool) → AreLeastOf test cells leasts →
    IsLeastOf (λ alpha. list_all (test alpha) (cells_numbered cells around)) n

-- the numbers of the cells around the face of an index
abbrev pub numbers_at : {K : Type 0} → Table K → ℕ → List ℕ
numbers_at t i = slice_index_or (stretches t.numbers.items 0 t.ends.items) i []

-- The numbers of a face: that of its admission, and from which alpha on some and all of the cells around it pass.
pub record IsAround (leasts around : List ℕ) (admitted : ℕ) (a : FaceAlphas) : Type 0 where
  pub admits : a.admitted ≡ admitted
  pub regular : AreLeastOfSome leasts around a.regular
  pub interior : AreLeastOfAll leasts around a.interior

-- so of each face of a table
pub record AreAlphasAround {K : Type 0} (leasts : List ℕ) (t : Table K) (admitted : List ℕ)
    (alphas : List FaceAlphas) : Type 0 where
  pub count : length alphas ≡ length t.keys.items
  pub each : (i : ℕ) (d : FaceAlphas) → i < length t.keys.items →
      IsAround leasts (numbers_at t i) (slice_index_or admitted i 0) (slice_index_or alphas i d)
