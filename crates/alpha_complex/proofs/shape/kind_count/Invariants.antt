use Rattle.std.proofs.Common.{◌≡◌, take}
use Rattle.std.specs.Prelude.{count_by, is_some}
use Rattle.alpha_complex.proofs.shape.kind_count.Given as goal

abbrev pub invariant-loop-kind : goal.invariant-loop-kind
invariant-loop-kind l = l.count ≡ count_by is_some (take l.kind-index l.kinds)
