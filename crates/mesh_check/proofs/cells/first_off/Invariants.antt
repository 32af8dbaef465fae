-- the answer for what is left is the answer for all
use Rattle.std.proofs.Common.{◌≡◌, drop}
use Rattle.std.specs.Prelude.{not}
use Rattle.std.specs.List.{find}
use Rattle.point_order.specs.Orientation.{is_flat}
use Rattle.mesh_check.proofs.cells.first_off.Given as goal

abbrev pub invariant-loop-f : goal.invariant-loop-f
invariant-loop-f l = find (λ x. not (is_flat l.a l.b l.c x)) (drop l.f-index l.points) ≡ find
    (λ x. not (is_flat l.a l.b l.c x)) l.points
