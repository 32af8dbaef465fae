-- a front of the blocks was put, and the blocks that are left are not yet
use Rattle.std.proofs.Common.{drop}
use Rattle.mesh_files.specs.Report.{shapes_seen}
use Rattle.mesh_files.specs.Text.{shape_blocks}
use Rattle.text_sheets.proofs.Cited.{PutsBut}
use Rattle.mesh_files.proofs.shapes.put_shapes.Given as goal

abbrev pub invariant-loop-radius : goal.invariant-loop-radius
invariant-loop-radius g l =
    PutsBut g.O.Sink.holds g.O.Sink.faults l.fn.sheet l.sheet
    (shape_blocks (shapes_seen (drop l.radius-index l.shapes)))
    (shape_blocks (shapes_seen l.shapes))
