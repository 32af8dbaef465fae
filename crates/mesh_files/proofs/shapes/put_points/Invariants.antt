-- a front of the block was put, and the lines that are left are not yet
use Rattle.std.proofs.Common.{[], ◌∷◌, drop}
use Rattle.std.specs.Prelude.{map, codes}
use Rattle.std.specs.List.{concat}
use Rattle.text_sheets.specs.Lines.{block}
use Rattle.mesh_files.specs.Text.{face_line}
use Rattle.text_sheets.proofs.Cited.{PutsBut}
use Rattle.mesh_files.proofs.shapes.put_points.Given as goal

abbrev pub invariant-loop-index : goal.invariant-loop-index
invariant-loop-index g l =
    PutsBut g.O.Sink.holds g.O.Sink.faults l.fn.sheet l.sheet
    (concat (map (λ f. face_line l.indices (f.0 ∷ []) f.1) (drop l.index l.shape.points)))
    (block (codes "points") (map (λ f. face_line l.indices (f.0 ∷ []) f.1) l.shape.points))
