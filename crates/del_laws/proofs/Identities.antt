-- The identities of `conv_laws` at the places of points: how orientations and lifted determinants change with their
-- order, and the relations among them. No other file of the crate unfolds a coordinate, but for Planes.
use Rattle.std.specs.Prelude.{ℕ, ◌+ℤ◌, ◌-ℤ◌, ◌*ℤ◌, ◌≡◌, neg_ℤ, pos}
use Rattle.conv_laws.specs.Places.{square, normal, orient, Lifted, lifted as lifted_determinant}
use Rattle.conv_laws.specs.Spheres.{edge_power, triangle_power}
use Rattle.conv_laws.proofs.Cited as laws
use Rattle.point_order.specs.Orientation.{orientation, triple, minor, x_from, y_from, z_from}
use Rattle.point_order.specs.Heights.{lifted, square_of, sphere_polynomial}
use Rattle.del_laws.specs.EmptySpheres.{place}

-- the place of a point, lifted to its height
abbrev pub raised : (ℕ → ℕ) → ℕ → Lifted
raised h p = record { foot = place p; height = pos (h p) }

-- ---- orders of an orientation

-- an even order; this and the next make all of them
pub orientation_bcad : (a b c d : ℕ) → orientation b c a d ≡ orientation a b c d
unfolding orientation orient triple minor x_from y_from z_from
orientation_bcad a b c d = laws.orient_bcad (place a) (place b) (place c) (place d)

-- an even order
pub orientation_acdb : (a b c d : ℕ) → orientation a c d b ≡ orientation a b c d
unfolding orientation orient triple minor x_from y_from z_from
orientation_acdb a b c d = laws.orient_acdb (place a) (place b) (place c) (place d)

-- ---- an orientation where two points are one

-- two of the three points of a plane are one
pub orientation_same12 : (a c d : ℕ) → orientation a a c d ≡ pos 0
unfolding orientation orient triple minor x_from y_from z_from
orientation_same12 a c d = laws.orient_same12 (place a) (place c) (place d)

-- the first and the third are one
pub orientation_same13 : (a b d : ℕ) → orientation a b a d ≡ pos 0
unfolding orientation orient triple minor x_from y_from z_from
orientation_same13 a b d = laws.orient_same13 (place a) (place b) (place d)

-- the second and the third are one
pub orientation_same23 : (a b d : ℕ) → orientation a b b d ≡ pos 0
unfolding orientation orient triple minor x_from y_from z_from
orientation_same23 a b d = laws.orient_same23 (place b) (place a) (place d)

-- ---- orders of a lifted determinant

-- the first two are exchanged
pub lifted_swap12 : (h : ℕ → ℕ) (a b c d e : ℕ) → lifted h b a c d e ≡ neg_ℤ (lifted h a b c d e)
unfolding lifted lifted_determinant orientation orient triple minor x_from y_from z_from
lifted_swap12 h a b c d e = laws.lifted_swap12 (raised h a) (raised h b) (raised h c) (raised h d) (raised h e)

-- the third and the fourth are exchanged
pub lifted_swap34 : (h : ℕ → ℕ) (a b c d e : ℕ) → lifted h a b d c e ≡ neg_ℤ (lifted h a b c d e)
unfolding lifted lifted_determinant orientation orient triple minor x_from y_from z_from
lifted_swap34 h a b c d e = laws.lifted_swap34 (raised h a) (raised h b) (raised h c) (raised h d) (raised h e)

-- the second and the third are exchanged
pub lifted_swap23 : (h : ℕ → ℕ) (a b c d e : ℕ) → lifted h a c b d e ≡ neg_ℤ (lifted h a b c d e)
unfolding lifted lifted_determinant orientation orient triple minor x_from y_from z_from
lifted_swap23 h a b c d e = laws.lifted_swap23 (raised h a) (raised h b) (raised h c) (raised h d) (raised h e)

-- an even order; this and the next make all of them
pub lifted_bcad : (h : ℕ → ℕ) (a b c d e : ℕ) → lifted h b c a d e ≡ lifted h a b c d e
unfolding lifted lifted_determinant orientation orient triple minor x_from y_from z_from
lifted_bcad h a b c d e = laws.lifted_bcad (raised h a) (raised h b) (raised h c) (raised h d) (raised h e)

-- an even order
pub lifted_acdb : (h : ℕ → ℕ) (a b c d e : ℕ) → lifted h a c d b e ≡ lifted h a b c d e
unfolding lifted lifted_determinant orientation orient triple minor x_from y_from z_from
lifted_acdb h a b c d e = laws.lifted_acdb (raised h a) (raised h b) (raised h c) (raised h d) (raised h e)

-- the last two are exchanged
pub lifted_swap45 : (h : ℕ → ℕ) (a b c d e : ℕ) → lifted h a b c e d ≡ neg_ℤ (lifted h a b c d e)
unfolding lifted lifted_determinant orientation orient triple minor x_from y_from z_from
lifted_swap45 h a b c d e = laws.lifted_swap45 (raised h a) (raised h b) (raised h c) (raised h d) (raised h e)

-- the third and the fifth are exchanged
pub lifted_swap35 : (h : ℕ → ℕ) (a b c d e : ℕ) → lifted h a b e d c ≡ neg_ℤ (lifted h a b c d e)
unfolding lifted lifted_determinant orientation orient triple minor x_from y_from z_from
lifted_swap35 h a b c d e = laws.lifted_swap35 (raised h a) (raised h b) (raised h c) (raised h d) (raised h e)

-- ---- a lifted determinant at a vertex

-- a point lies on its own sphere
pub lifted_at_a : (h : ℕ → ℕ) (a b c d : ℕ) → lifted h a b c d a ≡ pos 0
unfolding lifted lifted_determinant orientation orient triple minor x_from y_from z_from
lifted_at_a h a b c d = laws.lifted_same15 (raised h a) (raised h b) (raised h c) (raised h d)

-- the same for the second
pub lifted_at_b : (h : ℕ → ℕ) (a b c d : ℕ) → lifted h a b c d b ≡ pos 0
unfolding lifted lifted_determinant orientation orient triple minor x_from y_from z_from
lifted_at_b h a b c d = laws.lifted_same25 (raised h b) (raised h a) (raised h c) (raised h d)

-- the same for the third
pub lifted_at_c : (h : ℕ → ℕ) (a b c d : ℕ) → lifted h a b c d c ≡ pos 0
unfolding lifted lifted_determinant orientation orient triple minor x_from y_from z_from
lifted_at_c h a b c d = laws.lifted_same35 (raised h c) (raised h a) (raised h b) (raised h d)

-- the same for the fourth
pub lifted_at_d : (h : ℕ → ℕ) (a b c d : ℕ) → lifted h a b c d d ≡ pos 0
unfolding lifted lifted_determinant orientation orient triple minor x_from y_from z_from
lifted_at_d h a b c d = laws.lifted_same45 (raised h d) (raised h a) (raised h b) (raised h c)

-- ---- relations

-- the three-term relation of four points around a pair
pub three_terms_of : (a b c d x y : ℕ) → orientation a b c d *ℤ orientation a b x y -ℤ orientation a b c x
    *ℤ orientation a b d y +ℤ orientation a b c y *ℤ orientation a b d x ≡ pos 0
unfolding orientation orient triple minor x_from y_from z_from
three_terms_of a b c d x y = laws.three_terms (place a) (place b) (place c) (place d) (place x) (place y)

-- the pencil of spheres through three points
pub pencil_of : (h : ℕ → ℕ) (a b c x y z : ℕ) → orientation a b c x *ℤ lifted h a b c y z -ℤ orientation a b c y
    *ℤ lifted h a b c x z +ℤ orientation a b c z *ℤ lifted h a b c x y ≡ pos 0
unfolding lifted lifted_determinant orientation orient triple minor x_from y_from z_from
pencil_of h a b c x y z = laws.pencil (raised h a) (raised h b) (raised h c) (raised h x) (raised h y) (raised h z)

-- the weights of e add up
pub weights_of : (a b c d e : ℕ) → orientation b d c e +ℤ orientation a c d e +ℤ orientation a d b e
    +ℤ orientation a b c e ≡ orientation a b c d
unfolding orientation orient triple minor x_from y_from z_from
weights_of a b c d e = laws.weights_add_up (place a) (place b) (place c) (place d) (place e)

-- an orientation with e by those with the vertices
pub orientation_carried : (a b c d e k l m : ℕ) → orientation a b c d *ℤ orientation k l m e
    ≡ orientation b d c e *ℤ orientation k l m a +ℤ orientation a c d e *ℤ orientation k l m b +ℤ orientation a d b e
    *ℤ orientation k l m c +ℤ orientation a b c e *ℤ orientation k l m d
unfolding orientation orient triple minor x_from y_from z_from
orientation_carried a b c d e k l m =
    laws.orient_carried (place a) (place b) (place c) (place d) (place e) (place k) (place l) (place m)

-- a lifted determinant with e by those with the vertices
pub lifted_carried_of : (h : ℕ → ℕ) (a b c d e k l m n : ℕ) → orientation a b c d *ℤ lifted h k l m n e
    ≡ orientation k l m n *ℤ lifted h a b c d e +ℤ (orientation b d c e *ℤ lifted h k l m n a +ℤ orientation a c d e
    *ℤ lifted h k l m n b +ℤ orientation a d b e *ℤ lifted h k l m n c +ℤ orientation a b c e *ℤ lifted h k l m n d)
unfolding lifted lifted_determinant orientation orient triple minor x_from y_from z_from
lifted_carried_of h a b c d e k l m n =
    laws.lifted_carried (raised h a) (raised h b) (raised h c) (raised h d) (raised h e) (raised h k) (raised h l)
    (raised h m) (raised h n)

-- from a cell to the one across a facet
pub crossing_of : (h : ℕ → ℕ) (a b c d f e : ℕ) → lifted h a c b f e *ℤ orientation a b c d -ℤ lifted h a b c d e
    *ℤ orientation a c b f ≡ orientation a b c e *ℤ lifted h a b c d f
unfolding lifted lifted_determinant orientation orient triple minor x_from y_from z_from
crossing_of h a b c d f e = laws.crossing (raised h a) (raised h b) (raised h c) (raised h d) (raised h f) (raised h e)

-- ---- smallest spheres

-- the power of e to the smallest sphere of the edge a, b by those of the other two vertices
pub edge_power_of : (a b c d e : ℕ) → orientation a b c d *ℤ edge_power (place a) (place b) (place e)
    ≡ sphere_polynomial a b c d e +ℤ (orientation a d b e *ℤ edge_power (place a) (place b) (place c)
    +ℤ orientation a b c e *ℤ edge_power (place a) (place b) (place d))
unfolding sphere_polynomial square_of lifted lifted_determinant orientation orient triple minor x_from y_from z_from
edge_power_of a b c d e = laws.edge_power_carried (place a) (place b) (place c) (place d) (place e)

-- the power to the smallest sphere of the triangle a, b, c by that of the fourth vertex
pub triangle_power_of : (a b c d e : ℕ) → orientation a b c d *ℤ triangle_power (place a) (place b) (place c) (place e)
    ≡ sphere_polynomial a b c d e *ℤ square (normal (place a) (place b) (place c)) +ℤ orientation a b c e
    *ℤ triangle_power (place a) (place b) (place c) (place d)
unfolding sphere_polynomial square_of lifted lifted_determinant orientation orient triple minor x_from y_from z_from
triangle_power_of a b c d e = laws.triangle_power_carried (place a) (place b) (place c) (place d) (place e)
