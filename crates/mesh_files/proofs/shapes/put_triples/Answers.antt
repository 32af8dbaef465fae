use Rattle.std.proofs.Common.{List, ℕ, ◌∙◌, sym}
use Rattle.std.specs.Prelude.{map, codes}
use Rattle.std.specs.List.{concat}
use Rattle.std.proofs.lemmas.List.{length-map}
use Rattle.alpha_complex.specs.declared.shape.Kind.{Kind}
use Rattle.mesh_files.specs.Text.{face_line}
use Rattle.text_sheets.specs.Lines.{held_line}
use Rattle.list_laws.specs.Lists.{held}
use Rattle.text_sheets.proofs.Cited.{block_put, held_lines}
use Rattle.mesh_files.proofs.shapes.put_triples.Goals as goal

pub returns : goal.returns
returns g c =
    let line = (λ (f : List ℕ × Kind). face_line c.args.indices.now f.0 f.1) in
    let slots = c.args.shape.now.triples in
    block_put (codes "triangles") (map line (held slots)) (concat (map (held_line line) slots)) c.triple_count.result
    (c.triple_count.ensures ∙ sym (length-map (held slots) line)) (held_lines line slots) c.put_title.ensures
    c.put_rows.ensures
