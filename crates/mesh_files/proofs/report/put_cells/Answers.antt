use Rattle.std.proofs.Common.{◌∙◌, sym}
use Rattle.std.specs.Prelude.{map, codes}
use Rattle.std.specs.List.{concat}
use Rattle.std.proofs.lemmas.List.{length-map}
use Rattle.text_sheets.specs.Indices.{indices_line}
use Rattle.text_sheets.proofs.Cited.{block_put}
use Rattle.mesh_files.specs.Rows.{full_piece}
use Rattle.mesh_files.specs.Text.{full_corners}
use Rattle.mesh_files.proofs.Cells.{full_lines}
use Rattle.mesh_files.proofs.report.put_cells.Goals as goal

pub returns : goal.returns
returns g c =
    let line = (indices_line c.args.indices.now) in
    let cells = c.args.cells.now in
    block_put (codes "cells") (map line (full_corners cells)) (concat (map (full_piece line) cells))
    c.full_count.result (c.full_count.ensures ∙ sym (length-map (full_corners cells) line)) (full_lines line cells)
    c.put_title.ensures c.put_rows.ensures
