-- the answer for what is left is the answer for all
use Rattle.std.proofs.Common.{◌≡◌, [], ◌∷◌, drop}
use Rattle.std.specs.Prelude.{◌||◌, not}
use Rattle.std.specs.List.{find}
use Rattle.point_order.specs.Sets.{is_among}
use Rattle.point_order.specs.Spheres.{is_outside}
use Rattle.mesh_check.proofs.cells.first_in_sphere.Given as goal

abbrev pub invariant-loop-p : goal.invariant-loop-p
invariant-loop-p l = find (λ x. not (is_among x (l.a ∷ l.b ∷ l.c ∷ l.d ∷ []) || is_outside l.a l.b l.c l.d x))
    (drop l.p-index l.points) ≡ find (λ x. not
    (is_among x (l.a ∷ l.b ∷ l.c ∷ l.d ∷ []) || is_outside l.a l.b l.c l.d x)) l.points
