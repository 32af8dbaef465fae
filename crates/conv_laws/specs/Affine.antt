-- The affine relation of five places, and what it carries from four places to a fifth.
use Rattle.std.specs.Prelude.{ℤ, pos, ◌+ℤ◌, ◌-ℤ◌, ◌*ℤ◌, ◌≡◌}
use Rattle.conv_laws.specs.Places.{Place, orient, Lifted, lifted}

-- The weight of e at a vertex of a, b, c, d: the orientation of the four with e in the vertex's place.
-- Divided by the orientation of the four, the weights are the barycentric coordinates of e.
abbrev pub weight_a : Place → Place → Place → Place → Place → ℤ
weight_a a b c d e = orient b d c e

abbrev pub weight_b : Place → Place → Place → Place → Place → ℤ
weight_b a b c d e = orient a c d e

abbrev pub weight_c : Place → Place → Place → Place → Place → ℤ
weight_c a b c d e = orient a d b e

abbrev pub weight_d : Place → Place → Place → Place → Place → ℤ
weight_d a b c d e = orient a b c e

-- the sum of four numbers, one for each vertex, each times the weight of e there
abbrev pub weighted : Place → Place → Place → Place → Place → ℤ → ℤ → ℤ → ℤ → ℤ
weighted a b c d e p q r s =
    weight_a a b c d e *ℤ p +ℤ weight_b a b c d e *ℤ q +ℤ weight_c a b c d e *ℤ r +ℤ weight_d a b c d e *ℤ s

-- ---- the relation

-- the weights add up to the orientation of the four
abbrev pub WeightsAddUp : Type 0
WeightsAddUp =
    (a b c d e : Place) →
    weight_a a b c d e +ℤ weight_b a b c d e +ℤ weight_c a b c d e +ℤ weight_d a b c d e ≡ orient a b c d

-- the vertices, each times its weight, add up to e times the orientation of the four, in each coordinate
abbrev pub WeightsLocate : Type 0
WeightsLocate =
    (a b c d e : Place) →
    (orient a b c d *ℤ e.x ≡ weighted a b c d e a.x b.x c.x d.x)
    × (orient a b c d *ℤ e.y ≡ weighted a b c d e a.y b.y c.y d.y)
    × (orient a b c d *ℤ e.z ≡ weighted a b c d e a.z b.z c.z d.z)

-- with heights, the lifted determinant is what e is raised above the plane through the four lifted vertices
abbrev pub WeightsOfHeights : Type 0
WeightsOfHeights =
    (a b c d e : Lifted) →
    orient a.foot b.foot c.foot d.foot *ℤ e.height
    ≡ lifted a b c d e +ℤ weighted a.foot b.foot c.foot d.foot e.foot a.height b.height c.height d.height

-- ---- what it carries

-- the orientation of e with any three places is the weighted sum of those of the vertices
abbrev pub OrientCarried : Type 0
OrientCarried =
    (a b c d e k l m : Place) →
    orient a b c d *ℤ orient k l m e
    ≡ weighted a b c d e (orient k l m a) (orient k l m b) (orient k l m c) (orient k l m d)

-- the lifted determinant of e with any four is the weighted sum of those of
-- the vertices, and as much more as e is raised
abbrev pub LiftedCarried : Type 0
LiftedCarried =
    (a b c d e k l m n : Lifted) →
    orient a.foot b.foot c.foot d.foot *ℤ lifted k l m n e
    ≡ orient k.foot l.foot m.foot n.foot *ℤ lifted a b c d e
    +ℤ weighted a.foot b.foot c.foot d.foot e.foot
    (lifted k l m n a) (lifted k l m n b) (lifted k l m n c) (lifted k l m n d)

-- ---- relations of six places

-- the three-term relation of four places around a common pair
abbrev pub ThreeTerms : Type 0
ThreeTerms =
    (a b c d x y : Place) →
    orient a b c d *ℤ orient a b x y -ℤ orient a b c x *ℤ orient a b d y +ℤ orient a b c y *ℤ orient a b d x ≡ pos 0

-- the spheres through three places form a pencil: a relation of three places around them
abbrev pub Pencil : Type 0
Pencil =
    (a b c x y z : Lifted) →
    orient a.foot b.foot c.foot x.foot *ℤ lifted a b c y z
    -ℤ orient a.foot b.foot c.foot y.foot *ℤ lifted a b c x z
    +ℤ orient a.foot b.foot c.foot z.foot *ℤ lifted a b c x y
    ≡ pos 0

-- in the plane of the three, the side of a sphere of the pencil does not depend on the sphere
abbrev pub PencilInPlane : Type 0
PencilInPlane =
    (a b c f g e : Lifted) →
    orient a.foot b.foot c.foot e.foot ≡ pos 0 →
    orient a.foot b.foot c.foot f.foot *ℤ lifted a b c g e ≡ orient a.foot b.foot c.foot g.foot *ℤ lifted a b c f e

-- from a cell to the one across a facet, the ratio of lifted determinant and
-- orientation falls where the weight is negative
abbrev pub Crossing : Type 0
Crossing =
    (a b c d f e : Lifted) →
    lifted a c b f e *ℤ orient a.foot b.foot c.foot d.foot -ℤ lifted a b c d e *ℤ orient a.foot c.foot b.foot f.foot
    ≡ orient a.foot b.foot c.foot e.foot *ℤ lifted a b c d f
