-- a front of the lines was put, and the lines that are left are not yet
use Rattle.std.proofs.Common.{drop}
use Rattle.std.specs.Prelude.{map}
use Rattle.std.specs.List.{concat}
use Rattle.mesh_files.specs.Report.{shapes_seen}
use Rattle.mesh_files.specs.Summary.{shape_line}
use Rattle.text_sheets.proofs.Cited.{PutsBut}
use Rattle.mesh_files.proofs.summary.put_shape_lines.Given as goal

abbrev pub invariant-loop-radius : goal.invariant-loop-radius
invariant-loop-radius g l =
    PutsBut g.O.Sink.holds g.O.Sink.faults l.fn.sheet l.sheet
    (concat (map shape_line (shapes_seen (drop l.radius-index l.shapes))))
    (concat (map shape_line (shapes_seen l.shapes)))
