-- Heights and spheres.
use Rattle.std.specs.Prelude.{ℤ, pos, ◌+ℤ◌, ◌*ℤ◌, ◌≡◌, ℕ, ◌+◌, ◌*◌, List, [], ◌∷◌}
use Rattle.whole_ring.specs.Poly.{Expr, var, lit, ◌⊕◌, ◌⊗◌, minus, ◌⊖◌, nothing, given}
use Rattle.whole_ring.proofs.Cited.{ring, ring_from}
use Rattle.conv_laws.specs.Places.{square, Place, normal, orient, lifted, sphere, minor, triple}
use Rattle.conv_laws.specs.Spheres.{HeightsAreLinear, AffineChange, LiftedBySteps, SphereBySteps, SphereAbout}
use Rattle.conv_laws.specs.Spheres.{ParaboloidIsConvex, PowerCarried, EdgePower, triangle_vector, triangle_power}
use Rattle.conv_laws.specs.Spheres.{TriangleOnSphere, TrianglePower}
use Rattle.conv_laws.proofs.Written.{Written, place, onto, det_w, cross_w, dot_w, step_w, square_w, distance_w}
use Rattle.conv_laws.proofs.Written.{normal_w, WrittenLifted, on_paraboloid_w, lifted_w, all_of, o, weighted_w, raised}

-- the in-sphere polynomial of places 0 to 4
abbrev sphere_w : Expr
sphere_w =
    lifted_w (on_paraboloid_w (place 0)) (on_paraboloid_w (place 1)) (on_paraboloid_w (place 2))
    (on_paraboloid_w (place 3)) (on_paraboloid_w (place 4))

-- the coordinates of five places, and then other numbers
abbrev five : Place → Place → Place → Place → Place → List ℤ → List ℤ
five a b c d e rest = onto (a ∷ b ∷ c ∷ d ∷ e ∷ []) rest

-- ---- heights

-- the orientations and the heights are the variables here: five of each, five second heights, and the number
pub heights_are_linear : HeightsAreLinear
unfolding lifted
heights_are_linear m a b c d e p q r s t =
    ring
    (var 0 ⊗ high 9 14 ⊖ var 1 ⊗ high 8 13 ⊕ var 2 ⊗ high 7 12 ⊖ var 3 ⊗ high 6 11 ⊕ var 4 ⊗ high 5 10)
    ((var 0 ⊗ var 9 ⊖ var 1 ⊗ var 8 ⊕ var 2 ⊗ var 7 ⊖ var 3 ⊗ var 6 ⊕ var 4 ⊗ var 5) ⊗ var 15
    ⊕ (var 0 ⊗ var 14 ⊖ var 1 ⊗ var 13 ⊕ var 2 ⊗ var 12 ⊖ var 3 ⊗ var 11 ⊕ var 4 ⊗ var 10))
    (orient a.foot b.foot c.foot d.foot ∷ orient a.foot b.foot c.foot e.foot ∷ orient a.foot b.foot d.foot e.foot
    ∷ orient a.foot c.foot d.foot e.foot ∷ orient b.foot c.foot d.foot e.foot
    ∷ a.height ∷ b.height ∷ c.height ∷ d.height ∷ e.height ∷ p ∷ q ∷ r ∷ s ∷ t ∷ m ∷ []) tt
  where
    high : ℕ → ℕ → Expr
    high i j = var i ⊗ var 15 ⊕ var j

-- place n lifted to the variable i, with the affine function that has the coefficients 20, 21, 22 and the number 23
abbrev sheared_w : ℕ → ℕ → WrittenLifted
sheared_w n i =
    record {
      foot = place n;
      height = var i ⊕ (var 20 ⊗ var (3 * n) ⊕ var 21 ⊗ var (3 * n + 1) ⊕ var 22 ⊗ var
          (3 * n + 2)) ⊕ var 23;
    }

-- an affine function of place adds nothing
pub affine_change : AffineChange
unfolding orient lifted triple minor
affine_change g k a b c d e =
    ring (lifted_w (sheared_w 0 15) (sheared_w 1 16) (sheared_w 2 17) (sheared_w 3 18) (sheared_w 4 19))
    (raised 15 0 1 2 3 4)
    (onto (a.foot ∷ b.foot ∷ c.foot ∷ d.foot ∷ e.foot ∷ []) (a.height ∷ b.height ∷ c.height ∷ d.height ∷ e.height ∷ g.x
    ∷ g.y ∷ g.z ∷ k ∷ [])) tt

-- ---- steps

-- the determinant of the steps from place 0 to three others
abbrev s : ℕ → ℕ → ℕ → Expr
s i j k = det_w (step_w (place 0) (place i)) (step_w (place 0) (place j)) (step_w (place 0) (place k))

-- the lifted determinant by steps
pub lifted_by_steps : LiftedBySteps
unfolding orient lifted triple minor
lifted_by_steps a b c d e =
    ring (raised 15 0 1 2 3 4)
    (s 1 2 3 ⊗ (var 19 ⊖ var 15) ⊖ s 1 2 4 ⊗ (var 18 ⊖ var 15) ⊕ s 1 3 4 ⊗ (var 17 ⊖ var 15)
    ⊖ s 2 3 4 ⊗ (var 16 ⊖ var 15))
    (all_of (a ∷ b ∷ c ∷ d ∷ e ∷ [])) tt

-- the square of the step from place 0 to another
abbrev q : ℕ → Expr
q i = distance_w (place 0) (place i)

-- the in-sphere polynomial by steps
pub sphere_by_steps : SphereBySteps
unfolding orient lifted triple minor
sphere_by_steps a b c d e =
    ring sphere_w (s 1 2 3 ⊗ q 4 ⊖ s 1 2 4 ⊗ q 3 ⊕ s 1 3 4 ⊗ q 2 ⊖ s 2 3 4 ⊗ q 1) (five a b c d e []) tt

-- ---- squares of distances

-- place n at the height that is the square of its distance from place 5
abbrev far_w : ℕ → WrittenLifted
far_w n = record { foot = place n; height = distance_w (place 5) (place n) }

-- the origin of the paraboloid moved to q
pub sphere_about : SphereAbout
unfolding orient lifted triple minor
sphere_about q a b c d e =
    ring sphere_w (lifted_w (far_w 0) (far_w 1) (far_w 2) (far_w 3) (far_w 4)) (five a b c d e (q.x ∷ q.y ∷ q.z ∷ []))
    tt

-- the distance of a place from place 4
abbrev r : ℕ → Expr
r i = distance_w (place 4) (place i)

-- the in-sphere polynomial as a weighted sum of squares of distances
pub paraboloid_is_convex : ParaboloidIsConvex
unfolding orient lifted triple minor
paraboloid_is_convex a b c d e = ring sphere_w (minus (weighted_w (r 0) (r 1) (r 2) (r 3))) (five a b c d e []) tt

-- ---- smallest spheres

-- the power of place n to a sphere through place 5
abbrev power_w : ℕ → Expr
power_w n =
    distance_w (place 5) (place n) ⊗ var 18
    ⊖ dot_w (step_w (place 5) (place n)) (record { x = var 19; y = var 20; z = var 21 })

-- powers are carried
pub power_carried : PowerCarried
unfolding orient lifted triple minor
power_carried k v q a b c d e =
    ring (o 0 1 2 3 ⊗ power_w 4) (sphere_w ⊗ var 18 ⊕ weighted_w (power_w 0) (power_w 1) (power_w 2) (power_w 3))
    (five a b c d e (q.x ∷ q.y ∷ q.z ∷ k ∷ v.x ∷ v.y ∷ v.z ∷ [])) tt

-- the power of place n to the smallest sphere of the edge of places 0 and 1
abbrev edge_w : ℕ → Expr
edge_w n = dot_w (step_w (place n) (place 0)) (step_w (place n) (place 1))

-- the power to the smallest sphere of an edge
pub edge_power_carried : EdgePower
unfolding orient lifted triple minor
edge_power_carried a b c d e =
    ring (o 0 1 2 3 ⊗ edge_w 4) (sphere_w ⊕ (o 0 3 1 4 ⊗ edge_w 2 ⊕ o 0 1 2 4 ⊗ edge_w 3)) (five a b c d e []) tt

-- a number times a vector
abbrev times_w : Expr → Written → Written
times_w k u = record { x = k ⊗ u.x; y = k ⊗ u.y; z = k ⊗ u.z }

-- the sum of two vectors
abbrev plus_w : Written → Written → Written
plus_w u v = record { x = u.x ⊕ v.x; y = u.y ⊕ v.y; z = u.z ⊕ v.z }

-- the normal of places 0, 1, 2, and the triangle's vector
abbrev n_w : Written
n_w = normal_w (place 0) (place 1) (place 2)

-- the vector of that triangle
abbrev v_w : Written
v_w =
    plus_w (times_w (q 2) (cross_w n_w (step_w (place 0) (place 1))))
    (times_w (q 1) (cross_w (step_w (place 0) (place 2)) n_w))

-- the power of place n to the smallest sphere of that triangle
abbrev triangle_w : ℕ → Expr
triangle_w n = q n ⊗ square_w n_w ⊖ dot_w (step_w (place 0) (place n)) v_w

-- the first vertex lies on the sphere
pub triangle_power_a : (a b c : Place) → triangle_power a b c a ≡ pos 0
unfolding minor triple
triangle_power_a a b c = ring (triangle_w 0) (lit (pos 0)) (onto (a ∷ b ∷ c ∷ []) []) tt

-- the second does
pub triangle_power_b : (a b c : Place) → triangle_power a b c b ≡ pos 0
unfolding minor triple
triangle_power_b a b c = ring (triangle_w 1) (lit (pos 0)) (onto (a ∷ b ∷ c ∷ []) []) tt

-- the third does
pub triangle_power_c : (a b c : Place) → triangle_power a b c c ≡ pos 0
unfolding minor triple
triangle_power_c a b c = ring (triangle_w 2) (lit (pos 0)) (onto (a ∷ b ∷ c ∷ []) []) tt

-- all three do
pub triangle_on_sphere : TriangleOnSphere
triangle_on_sphere a b c = (triangle_power_a a b c, triangle_power_b a b c, triangle_power_c a b c)

-- terms with a factor 0 fall away
only_last : (f g s wa wb wc wd pa pb pc pd : ℤ) → f *ℤ g ≡ s +ℤ (wa *ℤ pa +ℤ wb *ℤ pb +ℤ wc *ℤ pc +ℤ wd *ℤ pd) →
    pa ≡ pos 0 → pb ≡ pos 0 → pc ≡ pos 0 → f *ℤ g ≡ s +ℤ wd *ℤ pd
only_last f g s wa wb wc wd pa pb pc pd h ha hb hc =
    ring_from (var 0 ⊗ var 1) (var 2 ⊕ var 6 ⊗ var 10)
    (given (lit (pos 1)) (var 0 ⊗ var 1) (var 2 ⊕ (var 3 ⊗ var 7 ⊕ var 4 ⊗ var 8 ⊕ var 5 ⊗ var 9 ⊕ var 6 ⊗ var 10))
    (given (var 3) (var 7) (lit (pos 0)) (given (var 4) (var 8) (lit (pos 0))
    (given (var 5) (var 9) (lit (pos 0)) nothing))))
    (f ∷ g ∷ s ∷ wa ∷ wb ∷ wc ∷ wd ∷ pa ∷ pb ∷ pc ∷ pd ∷ []) (h, (ha, (hb, (hc, tt)))) tt

-- the power to the smallest sphere of a triangle
pub triangle_power_carried : TrianglePower
triangle_power_carried a b c d e =
    let p = λ (t : Place). triangle_power a b c t in
    only_last (orient a b c d) (p e) (sphere a b c d e *ℤ square (normal a b c)) (orient b d c e) (orient a c d e)
    (orient a d b e) (orient a b c e) (p a) (p b) (p c) (p d)
    (power_carried (square (normal a b c)) (triangle_vector a b c) a a b c d e) (triangle_power_a a b c)
    (triangle_power_b a b c) (triangle_power_c a b c)
