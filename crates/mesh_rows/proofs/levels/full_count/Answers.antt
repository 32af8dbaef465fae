use Rattle.std.proofs.Common.{◌≡◌, ◌∙◌, ◌+◌, ℕ, suc, [], ◌∷◌, ap, sym, arith, length, take}
use Rattle.point_order.specs.declared.cell.Cell.{Cell}
use Rattle.face_list.specs.Faces.{full_cells}
use Rattle.mesh_rows.proofs.RowLaws.{count_more}
use Rattle.mesh_rows.proofs.levels.full_count.Goals as goal

pub loop-cell-preserved : goal.loop-cell-preserved
loop-cell-preserved c =
    let cells = c.args.cells.now in
    let i = c.loop-cell.cell-index in
    let x = c.cell-item.result in
    let e : suc i ≡ i + 1 = omega arith in
    let m = ap (λ (n : ℕ). length (full_cells (take n cells))) (sym e) ∙ count_more cells i x c.loop-cell-test.true in
    let one = c.full_one-count.ensures.count
    ∙ ap (λ (y : Cell). length (full_cells (y ∷ []))) c.cell-item.is in
    let most = c.full_one-count.ensures.most in
    let few = c.loop-cell.invariant.0 in
    let same = c.loop-cell.invariant.1 in
    (omega (arith, few, most), omega (arith, same, m, one))
