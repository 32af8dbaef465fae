use Rattle.std.proofs.Common.{◌∙◌, ◌++◌, ◌+◌, ◌≡◌, sym, ap, List, ℕ, suc, [], ◌∷◌, map, take, arith}
use Rattle.point_order.specs.declared.cell.Cell.{Cell}
use Rattle.mesh_rows.specs.Rows.{open_cells}
use Rattle.mesh_rows.specs.declared.rows.TriangleRow.{TriangleRow}
use Rattle.mesh_rows.specs.Rows.{triangle_row}
use Rattle.mesh_rows.proofs.RowLaws.{open_more}
use Rattle.mesh_rows.proofs.numbers.hull.Goals as goal

pub loop-cell-preserved : goal.loop-cell-preserved
loop-cell-preserved c =
    let f = triangle_row c.args.points.now in
    let cells = c.args.all.now in
    let i = c.loop-cell.cell-index in
    let x = c.cell-item.result in
    let e : suc i ≡ i + 1 = omega arith in
    c.in_ok-put_open.ensures ∙ ap (λ (t : List TriangleRow). t ++ map f (open_cells (x ∷ []))) c.loop-cell.invariant
    ∙ ap (λ (y : Cell). map f (open_cells (take i cells)) ++ map f (open_cells (y ∷ []))) c.cell-item.is
    ∙ sym (open_more f cells i x (omega arith)) ∙ ap (λ (n : ℕ). map f (open_cells (take n cells))) e
