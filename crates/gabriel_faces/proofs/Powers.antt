-- The powers of points to smallest spheres, as `small_spheres` and as `conv_laws` says them.
use Rattle.std.specs.Prelude.{◌≡◌, refl, ℕ, true, not, pos, ◌<ℤ◌}
use Rattle.std.proofs.Common.{subst, sym}
use Rattle.list_laws.proofs.Cited.{clash, false_if, less_from, less_true, not_below, not_both, not_from, not_true}
use Rattle.conv_laws.specs.Spheres.{edge_power as edge_power_at, triangle_power as triangle_power_at}
use Rattle.point_order.specs.Orientation.{x_from, y_from, z_from, minor, normal_x, normal_y, normal_z, square_of_step}
use Rattle.point_order.specs.Orientation.{distance}
use Rattle.small_spheres.specs.Inside.{dot, edge_power, is_inside_edge, square_of_normal, centre_x, centre_y, centre_z}
use Rattle.small_spheres.specs.Inside.{triangle_power, is_inside_triangle}
use Rattle.del_laws.specs.EmptySpheres.{place, IsOffEdge, IsOffTriangle}

-- the power to the smallest sphere of an edge
edge_power_is : (a b e : ℕ) → edge_power a b e ≡ edge_power_at (place a) (place b) (place e)
unfolding edge_power dot x_from y_from z_from
edge_power_is a b e = refl

-- and of a triangle
triangle_power_is : (a b c e : ℕ) → triangle_power a b c e ≡ triangle_power_at (place a) (place b) (place c) (place e)
unfolding triangle_power square_of_normal centre_x centre_y centre_z normal_x normal_y normal_z square_of_step distance
    minor dot x_from y_from z_from
triangle_power_is a b c e = refl

-- a point that is off the sphere passes the test
pub edge_passes : (a b e : ℕ) → IsOffEdge a b e → not (is_inside_edge a b e) ≡ true
edge_passes a b e o =
    not_true (is_inside_edge a b e) (false_if (is_inside_edge a b e)
    (λ t. clash (edge_power_at (place a) (place b) (place e))
    (subst (λ z. z <ℤ pos 0) (edge_power_is a b e) (less_from (edge_power a b e) (pos 0) t)) o))

-- and one that passes is off it
pub edge_off : (a b e : ℕ) → not (is_inside_edge a b e) ≡ true → IsOffEdge a b e
edge_off a b e t =
    not_below (edge_power_at (place a) (place b) (place e)) (λ l. not_both (is_inside_edge a b e)
    (less_true (edge_power a b e) (pos 0) (subst (λ z. z <ℤ pos 0) (sym (edge_power_is a b e)) l))
    (not_from (is_inside_edge a b e) t))

-- the same of a triangle
pub triangle_passes : (a b c e : ℕ) → IsOffTriangle a b c e → not (is_inside_triangle a b c e) ≡ true
triangle_passes a b c e o =
    not_true (is_inside_triangle a b c e) (false_if (is_inside_triangle a b c e)
    (λ t. clash (triangle_power_at (place a) (place b) (place c) (place e))
    (subst (λ z. z <ℤ pos 0) (triangle_power_is a b c e) (less_from (triangle_power a b c e) (pos 0) t)) o))

-- and back
pub triangle_off : (a b c e : ℕ) → not (is_inside_triangle a b c e) ≡ true → IsOffTriangle a b c e
triangle_off a b c e t =
    not_below (triangle_power_at (place a) (place b) (place c) (place e))
    (λ l. not_both (is_inside_triangle a b c e) (less_true (triangle_power a b c e) (pos 0)
    (subst (λ z. z <ℤ pos 0) (sym (triangle_power_is a b c e)) l)) (not_from (is_inside_triangle a b c e) t))
