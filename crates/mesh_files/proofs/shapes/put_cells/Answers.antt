use Rattle.std.proofs.Common.{◌∙◌, sym}
use Rattle.std.specs.Prelude.{map, codes}
use Rattle.std.specs.List.{concat}
use Rattle.std.proofs.lemmas.List.{length-map}
use Rattle.text_sheets.specs.Indices.{indices_line}
use Rattle.text_sheets.specs.Lines.{held_line}
use Rattle.list_laws.specs.Lists.{held}
use Rattle.text_sheets.proofs.Cited.{block_put, held_lines}
use Rattle.mesh_files.proofs.shapes.put_cells.Goals as goal

pub returns : goal.returns
returns g c =
    let line = (indices_line c.args.indices.now) in
    let slots = c.args.shape.now.cells in
    block_put (codes "cells") (map line (held slots)) (concat (map (held_line line) slots)) c.cell_count.result
    (c.cell_count.ensures ∙ sym (length-map (held slots) line)) (held_lines line slots) c.put_title.ensures
    c.put_rows.ensures
