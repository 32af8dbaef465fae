-- Planes by their normals, and when all places lie in one plane or on one line.
use Rattle.std.specs.Prelude.{ℤ, pos, ◌+ℤ◌, ◌-ℤ◌, ◌*ℤ◌, ◌≡◌}
use Rattle.conv_laws.specs.Places.{Vector, det, cross, dot, IsZero, Place, step, normal, orient}

-- the orientation of y with three places is its height over their plane, measured along the normal
abbrev pub HeightOverPlane : Type 0
HeightOverPlane = (a b c y : Place) → orient a b c y ≡ dot (normal a b c) (step a y)

-- Cramer's rule: a vector is told by its scalar products with three rows
abbrev pub CramersRule : Type 0
CramersRule =
    (n u v w : Vector) →
    (det u v w *ℤ n.x ≡ dot n u *ℤ (cross v w).x +ℤ dot n v *ℤ (cross w u).x +ℤ dot n w *ℤ (cross u v).x)
    × (det u v w *ℤ n.y ≡ dot n u *ℤ (cross v w).y +ℤ dot n v *ℤ (cross w u).y +ℤ dot n w *ℤ (cross u v).y)
    × (det u v w *ℤ n.z ≡ dot n u *ℤ (cross v w).z +ℤ dot n v *ℤ (cross w u).z +ℤ dot n w *ℤ (cross u v).z)

-- the number times a cofactor, for each of three rows: the heights of l, m, n over the plane of a, b, c, less that of k
abbrev pub by_heights : Place → Place → Place → Place → Place → Place → Place → ℤ → ℤ → ℤ → ℤ
by_heights a b c k l m n p q r =
    (orient a b c l -ℤ orient a b c k) *ℤ p +ℤ (orient a b c m -ℤ orient a b c k) *ℤ q
    +ℤ (orient a b c n -ℤ orient a b c k) *ℤ r

-- four places see the normal of three others: it is told by their heights over the plane
abbrev pub NormalByHeights : Type 0
NormalByHeights =
    (a b c k l m n : Place) →
    (orient k l m n *ℤ (normal a b c).x
    ≡ by_heights a b c k l m n (normal k m n).x (normal k n l).x (normal k l m).x)
    × (orient k l m n *ℤ (normal a b c).y
    ≡ by_heights a b c k l m n (normal k m n).y (normal k n l).y (normal k l m).y)
    × (orient k l m n *ℤ (normal a b c).z
    ≡ by_heights a b c k l m n (normal k m n).z (normal k n l).z (normal k l m).z)

-- four places in the plane of three that are not on one line lie in one plane
abbrev pub OnePlane : Type 0
OnePlane =
    (a b c k l m n : Place) →
    ¬ (IsZero (normal a b c)) →
    orient a b c k ≡ pos 0 → orient a b c l ≡ pos 0 → orient a b c m ≡ pos 0 → orient a b c n ≡ pos 0 →
    orient k l m n ≡ pos 0

-- and the other way round: where four places do not lie in one plane, and all are in
-- the plane of a, b, c, these are on one line
abbrev pub OnlyOnLine : Type 0
OnlyOnLine =
    (a b c k l m n : Place) →
    ¬ (orient k l m n ≡ pos 0) →
    orient a b c k ≡ pos 0 → orient a b c l ≡ pos 0 → orient a b c m ≡ pos 0 → orient a b c n ≡ pos 0 →
    IsZero (normal a b c)

-- three places on one line lie in one plane with any fourth
abbrev pub LineInPlane : Type 0
LineInPlane = (a b c y : Place) → IsZero (normal a b c) → orient a b c y ≡ pos 0

-- vectors that are parallel to one that is not 0 are parallel to each other
abbrev pub ParallelVectors : Type 0
ParallelVectors =
    (u v w : Vector) → ¬ (IsZero u) → IsZero (cross u v) → IsZero (cross u w) → IsZero (cross v w)

-- three places on a line through two different ones lie on one line
abbrev pub OneLine : Type 0
OneLine =
    (a b k l m : Place) →
    ¬ (IsZero (step a b)) → IsZero (normal a b k) → IsZero (normal a b l) → IsZero (normal a b m) →
    IsZero (normal k l m)
