-- the lines of a front were put, and those that are left are not yet
use Rattle.std.proofs.Common.{drop}
use Rattle.std.specs.Prelude.{map}
use Rattle.std.specs.List.{concat}
use Rattle.mesh_files.specs.Off.{off_line}
use Rattle.text_sheets.proofs.Cited.{PutsBut}
use Rattle.mesh_files.proofs.off.put_faces.Given as goal

abbrev pub invariant-loop-face : goal.invariant-loop-face
invariant-loop-face g l =
    PutsBut g.O.Sink.holds g.O.Sink.faults l.fn.sheet l.sheet
    (concat (map (off_line l.indices) (drop l.face-index l.faces))) (concat (map (off_line l.indices) l.faces))
