use Rattle.std.proofs.Common.{◌≡◌, map, take, []}
use Rattle.cell_stars.proofs.at_once.bare_stars.Given as goal

abbrev pub invariant-loop-p : goal.invariant-loop-p
invariant-loop-p l = l.stars.items ≡ map (λ p. (p, [])) (take l.p-index l.vertices)
