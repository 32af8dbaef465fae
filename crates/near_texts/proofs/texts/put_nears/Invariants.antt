-- a front of the block was put, and the lines that are left are not yet
use Rattle.std.proofs.Common.{drop}
use Rattle.std.specs.Prelude.{map, codes}
use Rattle.std.specs.List.{concat}
use Rattle.text_sheets.specs.Lines.{block}
use Rattle.text_sheets.proofs.Cited.{PutsBut}
use Rattle.near_texts.specs.Text.{near_line}
use Rattle.near_texts.proofs.texts.put_nears.Given as goal

abbrev pub invariant-loop-near : goal.invariant-loop-near
invariant-loop-near g l =
    PutsBut g.O.Sink.holds g.O.Sink.faults l.fn.sheet l.sheet
    (concat (map (near_line l.indices) (drop l.near-index l.nears)))
    (block (codes "queries") (map (near_line l.indices) l.nears))
