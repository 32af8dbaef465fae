use Rattle.std.proofs.Common.{◌∙◌, ◌++◌, ◌+◌, ◌≡◌, sym, ap, List, ℕ, suc, [], ◌∷◌, map, take, arith}
use Rattle.point_order.specs.declared.cell.Cell.{Cell}
use Rattle.face_list.specs.Faces.{full_cells}
use Rattle.mesh_rows.specs.declared.rows.CellRow.{CellRow}
use Rattle.mesh_rows.specs.Rows.{cell_row}
use Rattle.mesh_rows.proofs.RowLaws.{full_more}
use Rattle.mesh_rows.proofs.numbers.cells.Goals as goal

pub loop-cell-preserved : goal.loop-cell-preserved
loop-cell-preserved c =
    let f = cell_row c.args.points.now in
    let cells = c.args.all.now in
    let i = c.loop-cell.cell-index in
    let x = c.cell-item.result in
    let e : suc i ≡ i + 1 = omega arith in
    c.in_ok-put_full.ensures ∙ ap (λ (t : List CellRow). t ++ map f (full_cells (x ∷ []))) c.loop-cell.invariant
    ∙ ap (λ (y : Cell). map f (full_cells (take i cells)) ++ map f (full_cells (y ∷ []))) c.cell-item.is
    ∙ sym (full_more f cells i x (omega arith)) ∙ ap (λ (n : ℕ). map f (full_cells (take n cells))) e
