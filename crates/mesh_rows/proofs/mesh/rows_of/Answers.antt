use Rattle.std.proofs.Common.{◌∙◌, ap, sym, subst, List, length, map}
use Rattle.std.proofs.lemmas.List.{length-map}
use Rattle.point_order.specs.declared.cell.Cell.{Cell}
use Rattle.face_list.specs.Faces.{full_cells}
use Rattle.mesh_rows.specs.Rows.{cell_row, open_cells, triangle_row}
use Rattle.mesh_rows.specs.Across.{AreNeighbours}
use Rattle.mesh_rows.proofs.mesh.rows_of.Goals as goal

pub returns-clause-rows : goal.returns-clause-rows
returns-clause-rows c =
    let s = c.args.set.now in
    let e = c.requires.cells_are in
    record {
      points_are = c.in_ok-spots.ensures;
      cells_are = c.in_ok-rows.ensures ∙ ap (λ (l : List Cell). map (cell_row s) (full_cells l)) e;
      neighbours_are = subst (λ (l : List Cell). AreNeighbours l c.in_ok-across.across.items) e c.in_ok-across.ensures;
      hull_is = c.in_ok-outer.ensures ∙ ap (λ (l : List Cell). map (triangle_row s) (open_cells l)) e;
    }

pub returns-clause-count : goal.returns-clause-count
returns-clause-count c =
    c.in_ok-across.ensures.count
    ∙ sym (ap length c.in_ok-rows.ensures ∙ length-map (full_cells c.args.all.now) (cell_row c.args.set.now))
