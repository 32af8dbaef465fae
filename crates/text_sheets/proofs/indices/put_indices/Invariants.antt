-- indices of a front of the corners were put, and the others are not yet
use Rattle.std.proofs.Common.{◌++◌, drop}
use Rattle.std.specs.Prelude.{map, codes, decimal}
use Rattle.std.specs.List.{concat}
use Rattle.text_sheets.specs.Indices.{index_of}
use Rattle.text_sheets.proofs.Sheets.{PutsBut}
use Rattle.text_sheets.proofs.indices.put_indices.Given as goal

abbrev pub invariant-loop-corner : goal.invariant-loop-corner
invariant-loop-corner g l =
    PutsBut g.O.Sink.holds g.O.Sink.faults l.fn.sheet l.sheet
    (concat (map (λ p. decimal (index_of l.indices p) ++ codes " ") (drop l.corner-index l.corners)))
    (concat (map (λ p. decimal (index_of l.indices p) ++ codes " ") l.corners))
