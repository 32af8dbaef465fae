-- On which side of a perturbed sphere a point lies.
use Rattle.std.specs.Prelude.{ℕ, Bool, pos, ◌&&◌, ◌||◌}
use Rattle.std.specs.Int.Signed.{lt_z}
use Rattle.point_order.specs.Orientation.{orientation}
use Rattle.point_order.specs.Heights.{out}

-- e is outside the perturbed sphere through a, b, c, d, which may stand in either orientation:
-- the lifted determinant is positive, the sign of the orientation taken in
abbrev pub is_outside : ℕ → ℕ → ℕ → ℕ → ℕ → Bool
is_outside a b c d e =
    (lt_z (pos 0) (orientation a b c d) && lt_z (pos 0) (out a b c d e))
    || (lt_z (orientation a b c d) (pos 0) && lt_z (out a b c d e) (pos 0))
