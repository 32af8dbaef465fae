-- a front of the lines was put, and the lines that are left are not yet
use Rattle.std.proofs.Common.{drop}
use Rattle.std.specs.Prelude.{map}
use Rattle.std.specs.List.{concat}
use Rattle.mesh_files.specs.Summary.{reply_count_line}
use Rattle.text_sheets.proofs.Cited.{PutsBut}
use Rattle.mesh_files.proofs.summary.put_reply_counts.Given as goal

abbrev pub invariant-loop-kind : goal.invariant-loop-kind
invariant-loop-kind g l =
    PutsBut g.O.Sink.holds g.O.Sink.faults l.fn.sheet l.sheet
    (concat (map (reply_count_line l.replies) (drop l.kind-index l.kinds)))
    (concat (map (reply_count_line l.replies) l.kinds))
