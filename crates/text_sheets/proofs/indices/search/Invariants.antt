use Rattle.std.proofs.Common.{◌-◌}
use Rattle.text_sheets.specs.Indices.{IsBetween}
use Rattle.text_sheets.proofs.indices.search.Given as goal

-- the key belongs between the two places
abbrev pub invariant-loop-low : goal.invariant-loop-low
invariant-loop-low l = IsBetween l.points l.key l.low l.high

abbrev pub decreases-loop-low : goal.decreases-loop-low
decreases-loop-low l = l.high - l.low
