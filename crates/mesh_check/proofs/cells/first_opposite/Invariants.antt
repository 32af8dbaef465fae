-- the answer for what is left is the answer for all
use Rattle.std.proofs.Common.{◌≡◌, drop}
use Rattle.std.specs.List.{find}
use Rattle.point_order.specs.Conflicts.{are_opposite}
use Rattle.mesh_check.proofs.cells.first_opposite.Given as goal

abbrev pub invariant-loop-f : goal.invariant-loop-f
invariant-loop-f l = find (λ x. are_opposite l.a l.b l.c l.e x) (drop l.f-index l.points) ≡ find
    (λ x. are_opposite l.a l.b l.c l.e x) l.points
