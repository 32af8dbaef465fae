-- Lines of the cells of one kind, cell by cell.
use Rattle.std.proofs.Common.{◌≡◌, subst, refl, ap, ℕ, List, [], ◌∷◌, ◌++◌, get_or}
use Rattle.std.specs.Prelude.{map}
use Rattle.std.specs.List.{concat}
use Rattle.point_order.specs.declared.cell.Cell.{Cell}
use Rattle.point_order.specs.declared.cell.Cell.TheVariants.{Full, Open}
use Rattle.mesh_files.specs.Rows.{full_piece}
use Rattle.mesh_files.specs.Text.{full_corners, hull_corners}
use Rattle.text_sheets.proofs.Cited.{IsOfItems}

-- the line of a cell where it is Open, and nothing where it is Full
abbrev pub hull_piece : (List ℕ → List ℕ) → Cell → List ℕ
hull_piece line (Full q) = []
hull_piece line (Open t) = line t

-- the lines of cells, of which the Open ones have none, are those of the Full ones
pub full_lines : (line : List ℕ → List ℕ) (cells : List Cell) →
    concat (map (full_piece line) cells) ≡ concat (map line (full_corners cells))
full_lines line [] = refl
full_lines line (Full q ∷ cells) = ap (λ (v : List ℕ). line q ++ v) (full_lines line cells)
full_lines line (Open t ∷ cells) = full_lines line cells

-- the lines of the Open cells are those of the list, cell by cell
pub hull_items : (line : List ℕ → List ℕ) → IsOfItems (λ cells. concat (map line (hull_corners cells)))
    (hull_piece line)
hull_items line (Full q) cells = refl
hull_items line (Open t) cells = refl

-- the item, once its kind is known
pub item_is : (cells : List Cell) (i : ℕ) (item cell : Cell) → item ≡ get_or cells i item → item ≡ cell →
    cell ≡ get_or cells i cell
item_is cells i item cell e k = subst (λ (c : Cell). c ≡ get_or cells i c) k e
