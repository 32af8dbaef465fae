-- What the rows and numbers of faces are made of, as private functions speak of it.
use Rattle.std.specs.Prelude.{◌≡◌, ℕ, List, [], ◌∷◌, length}
use Rattle.std.specs.List.{AllZip}
use Rattle.point_order.specs.Complex.{complex}
use Rattle.face_list.specs.declared.table.Table.{Table}
use Rattle.face_list.specs.Faces.{full_cells, parts_in, with_cells_around}
use Rattle.face_list.specs.Tables.{IsTable, table_seen}
use Rattle.alpha_complex.specs.Admitted.{is_admitted, is_admitted_cell}
use Rattle.alpha_complex.specs.Leasts.{AreLeastOf}
use Rattle.alpha_complex.specs.Told.{TellsFace}
use Rattle.mesh_rows.specs.declared.levels.Held.{Held}

-- the table shows the pairs of the complex of a set, or its triples, beside the cells around them
pub record ShowsParts (n : ℕ) (s : List ℕ) (t : Table (List ℕ)) : Type 0 where
  pub table : IsTable (length (complex s)) t
  pub shows : table_seen (complex s) t ≡ with_cells_around (parts_in n (complex s)) (complex s)

-- The tables are those of a set, and the numbers tell from which alpha on pairs, triples and cells are admitted.
pub record HoldsFaces (s : List ℕ) (held : Held) : Type 0 where
  pub of_points : AllZip (λ p a. TellsFace s (p ∷ []) a) s held.point_alphas.items
  pub pairs : ShowsParts 2 s held.pairs
  pub triples : ShowsParts 3 s held.triples
  pub of_pairs : AreLeastOf (is_admitted s) (parts_in 2 (complex s)) held.of_pairs.items
  pub of_triples : AreLeastOf (is_admitted s) (parts_in 3 (complex s)) held.of_triples.items
  pub of_cells : AreLeastOf (is_admitted_cell s) (complex s) held.of_cells.items
  pub full : held.full ≡ length (full_cells (complex s))
