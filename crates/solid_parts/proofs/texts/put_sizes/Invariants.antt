-- a front of the block was put, and the lines that are left are not yet
use Rattle.std.proofs.Common.{drop}
use Rattle.std.specs.Prelude.{map, codes}
use Rattle.std.specs.List.{concat}
use Rattle.text_sheets.specs.Lines.{block}
use Rattle.text_sheets.proofs.Cited.{PutsBut}
use Rattle.solid_parts.specs.Text.{size_line}
use Rattle.solid_parts.proofs.texts.put_sizes.Given as goal

abbrev pub invariant-loop-size : goal.invariant-loop-size
invariant-loop-size g l =
    PutsBut g.O.Sink.holds g.O.Sink.faults l.fn.sheet l.sheet
    (concat (map size_line (drop l.size-index l.sizes))) (block (codes "parts") (map size_line l.sizes))
