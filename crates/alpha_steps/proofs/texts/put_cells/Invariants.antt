-- a front of the block was put, and the lines of the slots that are left are not yet
use Rattle.std.proofs.Common.{drop}
use Rattle.std.specs.Prelude.{map, codes}
use Rattle.std.specs.List.{concat}
use Rattle.text_sheets.specs.Lines.{block}
use Rattle.list_laws.specs.Lists.{held}
use Rattle.text_sheets.proofs.Cited.{PutsBut}
use Rattle.alpha_steps.specs.Text.{step_line}
use Rattle.alpha_steps.proofs.texts.put_cells.Given as goal

abbrev pub invariant-loop-index : goal.invariant-loop-index
invariant-loop-index g l =
    PutsBut g.O.Sink.holds g.O.Sink.faults l.fn.sheet l.sheet
    (concat (map (step_line l.indices) (held (drop l.index l.list.cells))))
    (block (codes "cells") (map (step_line l.indices) (held l.list.cells)))
