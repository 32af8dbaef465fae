use Rattle.std.proofs.Common.{◌-◌, length, map}
use Rattle.cell_stars.proofs.Search.{IsSearched}
use Rattle.cell_stars.proofs.steps.place_counted.Given as goal

abbrev pub invariant-loop-low : goal.invariant-loop-low
invariant-loop-low g l = IsSearched (map (λ k. k.0) l.keys) (length l.keys) l.p l.initial.steps l.low l.high l.steps

abbrev pub decreases-loop-low : goal.decreases-loop-low
decreases-loop-low g l = l.high - l.low
