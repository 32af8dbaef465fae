-- the lines of a front were put, and those that are left are not yet
use Rattle.std.proofs.Common.{drop}
use Rattle.std.specs.Prelude.{map}
use Rattle.std.specs.List.{concat}
use Rattle.mesh_files.specs.Text.{point_line}
use Rattle.text_sheets.proofs.Cited.{PutsBut}
use Rattle.mesh_files.proofs.off.put_vertices.Given as goal

abbrev pub invariant-loop-point : goal.invariant-loop-point
invariant-loop-point g l =
    PutsBut g.O.Sink.holds g.O.Sink.faults l.fn.sheet l.sheet
    (concat (map point_line (drop l.point-index l.points))) (concat (map point_line l.points))
