-- the answer for what is left is the answer for all
use Rattle.std.proofs.Common.{◌≡◌, drop}
use Rattle.std.specs.Prelude.{Some}
use Rattle.std.specs.List.{find}
use Rattle.mesh_check.specs.Flaws.{is_inside_with}
use Rattle.mesh_check.proofs.cells.first_in_plane.Given as goal

abbrev pub invariant-loop-p : goal.invariant-loop-p
invariant-loop-p l = find (λ x. is_inside_with l.a l.b l.c x (Some l.f)) (drop l.p-index l.points) ≡ find
    (λ x. is_inside_with l.a l.b l.c x (Some l.f)) l.points
