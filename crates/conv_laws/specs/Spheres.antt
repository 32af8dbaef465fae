-- Heights and spheres: what an affine function of place adds to heights, the paraboloid, and the
-- smallest spheres of an edge and a triangle.
use Rattle.std.specs.Prelude.{ℤ, pos, ◌+ℤ◌, ◌-ℤ◌, ◌*ℤ◌, neg_ℤ, ◌≡◌}
use Rattle.conv_laws.specs.Places.{Vector, det, cross, dot, square, Place, step, distance, normal, orient, Lifted}
use Rattle.conv_laws.specs.Places.{lifted, sphere}
use Rattle.conv_laws.specs.Affine.{weight_c, weight_d, weighted}

-- ---- heights

-- the same foot at another height
abbrev pub at_height : ℤ → Lifted → Lifted
at_height k a = record { foot = a.foot; height = k }

-- the height times a number, and another number more
abbrev pub rescaled : ℤ → ℤ → Lifted → Lifted
rescaled m k a = record { foot = a.foot; height = a.height *ℤ m +ℤ k }

-- a lifted determinant is linear in the heights
abbrev pub HeightsAreLinear : Type 0
HeightsAreLinear =
    (m : ℤ) (a b c d e : Lifted) (p q r s t : ℤ) →
    lifted (rescaled m p a) (rescaled m q b) (rescaled m r c) (rescaled m s d) (rescaled m t e)
    ≡ lifted a b c d e *ℤ m
    +ℤ lifted (at_height p a) (at_height q b) (at_height r c) (at_height s d) (at_height t e)

-- an affine function of place is added to the height: g . p and a number k
abbrev pub sheared : Vector → ℤ → Lifted → Lifted
sheared g k a =
    record { foot = a.foot; height = a.height +ℤ (g.x *ℤ a.foot.x +ℤ g.y *ℤ a.foot.y +ℤ g.z *ℤ a.foot.z) +ℤ k }

-- that changes no lifted determinant
abbrev pub AffineChange : Type 0
AffineChange =
    (g : Vector) (k : ℤ) (a b c d e : Lifted) →
    lifted (sheared g k a) (sheared g k b) (sheared g k c) (sheared g k d) (sheared g k e) ≡ lifted a b c d e

-- ---- steps from the first place

-- four vectors from one place with a number each: what the lifted determinant is, if that place has height 0
abbrev pub lifted_of_steps : Vector → Vector → Vector → Vector → ℤ → ℤ → ℤ → ℤ → ℤ
lifted_of_steps u v w t hu hv hw ht = det u v w *ℤ ht -ℤ det u v t *ℤ hw +ℤ det u w t *ℤ hv -ℤ det v w t *ℤ hu

-- a lifted determinant by the steps and the differences of height from the first place
abbrev pub LiftedBySteps : Type 0
LiftedBySteps =
    (a b c d e : Lifted) →
    lifted a b c d e
    ≡ lifted_of_steps (step a.foot b.foot) (step a.foot c.foot) (step a.foot d.foot) (step a.foot e.foot)
    (b.height -ℤ a.height) (c.height -ℤ a.height) (d.height -ℤ a.height) (e.height -ℤ a.height)

-- the in-sphere polynomial by the steps from the first place and the squares of their lengths
abbrev pub SphereBySteps : Type 0
SphereBySteps =
    (a b c d e : Place) →
    sphere a b c d e
    ≡ lifted_of_steps (step a b) (step a c) (step a d) (step a e)
    (square (step a b)) (square (step a c)) (square (step a d)) (square (step a e))

-- ---- squares of distances

-- a place at the height that is the square of its distance from q
abbrev pub at_distance : Place → Place → Lifted
at_distance q p = record { foot = p; height = distance q p }

-- the origin of the paraboloid may be moved to any place
abbrev pub SphereAbout : Type 0
SphereAbout =
    (q a b c d e : Place) →
    sphere a b c d e ≡ lifted (at_distance q a) (at_distance q b) (at_distance q c) (at_distance q d) (at_distance q e)

-- The paraboloid is convex: where no weight of e is negative, e is not outside the sphere.
abbrev pub ParaboloidIsConvex : Type 0
ParaboloidIsConvex =
    (a b c d e : Place) →
    sphere a b c d e ≡ neg_ℤ (weighted a b c d e (distance e a) (distance e b) (distance e c) (distance e d))

-- ---- smallest spheres

-- The power of p to a sphere through a, for spheres given by a number k and a vector v: k times the square of the
-- distance of p from a, less (p - a) . v. For a positive k it is negative exactly where p is strictly inside.
abbrev pub power : ℤ → Vector → Place → Place → ℤ
power k v a p = distance a p *ℤ k -ℤ dot (step a p) v

-- the power of e is the weighted sum of the powers of the vertices, and k times the in-sphere polynomial more
abbrev pub PowerCarried : Type 0
PowerCarried =
    (k : ℤ) (v : Vector) (q a b c d e : Place) →
    orient a b c d *ℤ power k v q e
    ≡ sphere a b c d e *ℤ k +ℤ weighted a b c d e (power k v q a) (power k v q b) (power k v q c) (power k v q d)

-- (a - p) . (b - p), the power of p to the smallest sphere of an edge
abbrev pub edge_power : Place → Place → Place → ℤ
edge_power a b p = dot (step p a) (step p b)

-- the ends of the edge lie on it, so that in the weighted sum the other two vertices remain
abbrev pub EdgePower : Type 0
EdgePower =
    (a b c d e : Place) →
    orient a b c d *ℤ edge_power a b e
    ≡ sphere a b c d e +ℤ (weight_c a b c d e *ℤ edge_power a b c +ℤ weight_d a b c d e *ℤ edge_power a b d)

-- a number times a vector
abbrev pub times : ℤ → Vector → Vector
times k u = record { x = k *ℤ u.x; y = k *ℤ u.y; z = k *ℤ u.z }

-- the sum of two vectors
abbrev pub plus : Vector → Vector → Vector
plus u v = record { x = u.x +ℤ v.x; y = u.y +ℤ v.y; z = u.z +ℤ v.z }

-- |c - a|^2 (n x (b - a)) + |b - a|^2 ((c - a) x n), with n the normal: 2 |n|^2 times the step
-- from a to the centre of the circle of a, b, c
abbrev pub triangle_vector : Place → Place → Place → Vector
triangle_vector a b c =
    plus (times (distance a c) (cross (normal a b c) (step a b)))
    (times (distance a b) (cross (step a c) (normal a b c)))

-- |p - a|^2 |n|^2 - (p - a) . V, with V the triangle's vector: the power of p to the
-- smallest sphere of a triangle, times |n|^2
abbrev pub triangle_power : Place → Place → Place → Place → ℤ
triangle_power a b c p = power (square (normal a b c)) (triangle_vector a b c) a p

-- the vertices of the triangle lie on its sphere
abbrev pub TriangleOnSphere : Type 0
TriangleOnSphere =
    (a b c : Place) →
    (triangle_power a b c a ≡ pos 0) × (triangle_power a b c b ≡ pos 0) × (triangle_power a b c c ≡ pos 0)

-- so that in the weighted sum the fourth vertex remains
abbrev pub TrianglePower : Type 0
TrianglePower =
    (a b c d e : Place) →
    orient a b c d *ℤ triangle_power a b c e
    ≡ sphere a b c d e *ℤ square (normal a b c) +ℤ weight_d a b c d e *ℤ triangle_power a b c d
