use Rattle.std.proofs.Common.{◌≡◌, ℕ, List, ◌∷◌, ◌++◌}
use Rattle.nearest_points.specs.Points.{IsFirstOf}
use Rattle.linked_mesh.proofs.near.first_of_all.Given as goal

-- the first of those that were looked at
abbrev pub invariant-loop-x : goal.invariant-loop-x
invariant-loop-x l =
    (seen : List ℕ) × (l.initial.x-iterator ≡ seen ++ l.x-iterator) × IsFirstOf l.q (l.fn.p ∷ seen) l.first
