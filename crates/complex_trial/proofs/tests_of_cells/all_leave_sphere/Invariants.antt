-- the answer for what is left is the answer for all
use Rattle.std.proofs.Common.{◌≡◌, [], ◌∷◌, drop}
use Rattle.std.specs.Prelude.{◌||◌}
use Rattle.std.specs.List.{list_all}
use Rattle.point_order.specs.Sets.{is_among}
use Rattle.point_order.specs.Spheres.{is_outside}
use Rattle.complex_trial.proofs.tests_of_cells.all_leave_sphere.Given as goal

abbrev pub invariant-loop-e : goal.invariant-loop-e
invariant-loop-e l =
    list_all (λ e. is_among e (l.a ∷ l.b ∷ l.c ∷ l.d ∷ []) || is_outside l.a l.b l.c l.d e) (drop l.e-index l.points)
    ≡ list_all (λ e. is_among e (l.a ∷ l.b ∷ l.c ∷ l.d ∷ []) || is_outside l.a l.b l.c l.d e) l.points
