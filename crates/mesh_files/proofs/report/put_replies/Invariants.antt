-- a front of the block was put, and the lines that are left are not yet
use Rattle.std.proofs.Common.{drop}
use Rattle.std.specs.Prelude.{map, codes}
use Rattle.std.specs.List.{concat}
use Rattle.text_sheets.specs.Lines.{block}
use Rattle.mesh_files.specs.Text.{reply_line}
use Rattle.text_sheets.proofs.Cited.{PutsBut}
use Rattle.mesh_files.proofs.report.put_replies.Given as goal

abbrev pub invariant-loop-reply : goal.invariant-loop-reply
invariant-loop-reply g l =
    PutsBut g.O.Sink.holds g.O.Sink.faults l.fn.sheet l.sheet
    (concat (map reply_line (drop l.reply-index l.replies)))
    (block (codes "replies") (map reply_line l.replies))
