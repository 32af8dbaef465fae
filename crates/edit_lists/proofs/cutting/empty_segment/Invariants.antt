use Rattle.std.specs.Prelude.{◌≡◌, map, replicate, []}
use Rattle.edit_lists.proofs.cutting.empty_segment.Given as goal

abbrev pub invariant-loop-worker : goal.invariant-loop-worker
invariant-loop-worker l = map (λ x. x.pairs.items) l.each.items ≡ replicate l._worker []
