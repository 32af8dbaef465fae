-- a front of the block was put, and the lines that are left are not yet
use Rattle.std.proofs.Common.{drop}
use Rattle.std.specs.Prelude.{map, codes}
use Rattle.std.specs.List.{concat}
use Rattle.text_sheets.specs.Lines.{block}
use Rattle.mesh_files.specs.Text.{tag_line}
use Rattle.text_sheets.proofs.Cited.{PutsBut}
use Rattle.mesh_files.proofs.report.put_tags.Given as goal

abbrev pub invariant-loop-tag : goal.invariant-loop-tag
invariant-loop-tag g l =
    PutsBut g.O.Sink.holds g.O.Sink.faults l.fn.sheet l.sheet
    (concat (map tag_line (drop l.tag-index l.tags)))
    (block (codes "order") (map tag_line l.tags))
