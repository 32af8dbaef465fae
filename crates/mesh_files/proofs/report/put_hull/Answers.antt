use Rattle.std.proofs.Common.{◌≡◌, ◌∙◌, refl, sym, List, ℕ, length}
use Rattle.std.specs.Prelude.{map, codes}
use Rattle.std.specs.List.{concat}
use Rattle.std.proofs.lemmas.List.{length-map}
use Rattle.point_order.specs.declared.cell.Cell.{Cell}
use Rattle.point_order.specs.declared.cell.Cell.TheVariants.{Full, Open}
use Rattle.text_sheets.specs.Indices.{indices_line}
use Rattle.mesh_files.specs.Text.{hull_corners}
use Rattle.mesh_files.proofs.Cells.{hull_piece, hull_items, item_is}
use Rattle.text_sheets.proofs.Cited.{ends, goes_on, nothing, starts}
use Rattle.mesh_files.proofs.report.put_hull.Goals as goal
use Rattle.mesh_files.proofs.report.put_hull.Goals.{in-Open, in-Full}

pub loop-cell-init : goal.loop-cell-init
loop-cell-init g c =
    let lines : List (List ℕ) = map (indices_line c.args.indices.now) (hull_corners c.args.cells.now) in
    let n : c.hull_count.result ≡ length lines = c.hull_count.ensures ∙
    sym (length-map (hull_corners c.args.cells.now) (indices_line c.args.indices.now)) in
    starts (codes "hull") lines c.hull_count.result n c.put_title.ensures

-- the next cell is Open and its line is put, or it is Full
pub loop-cell-preserved : goal.loop-cell-preserved
loop-cell-preserved g c =
    elim c.match-cell.branch [
      | in-Open w ↦ rw w.sheet-is
          (goes_on (λ (cells : List Cell). concat (map (indices_line c.args.indices.now) (hull_corners cells)))
          (hull_piece (indices_line c.args.indices.now)) (hull_items (indices_line c.args.indices.now))
          c.args.cells.now c.loop-cell.cell-index (Open w.in-Open.tri) c.loop-cell-test.true
          (item_is c.args.cells.now c.loop-cell.cell-index c.cell-item.result (Open w.in-Open.tri)
          c.cell-item.is w.in-Open.is) c.loop-cell.invariant w.put_hull_line.ensures)
      | in-Full w ↦ rw w.sheet-is
          (goes_on (λ (cells : List Cell). concat (map (indices_line c.args.indices.now) (hull_corners cells)))
          (hull_piece (indices_line c.args.indices.now)) (hull_items (indices_line c.args.indices.now))
          c.args.cells.now c.loop-cell.cell-index (Full w.in-Full.field-0) c.loop-cell-test.true
          (item_is c.args.cells.now c.loop-cell.cell-index c.cell-item.result (Full w.in-Full.field-0)
          c.cell-item.is w.in-Full.is) c.loop-cell.invariant nothing)
    ]

pub returns : goal.returns
returns g c =
    ends (λ (cells : List Cell). concat (map (indices_line c.args.indices.now) (hull_corners cells)))
    refl c.args.cells.now c.loop-cell.cell-index c.loop-cell-test.false c.loop-cell.invariant
