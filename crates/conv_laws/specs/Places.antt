-- Places in space with whole coordinates, vectors, the orientation of four places, and the lifted determinant of five.
use Rattle.std.specs.Prelude.{ℤ, pos, ◌+ℤ◌, ◌-ℤ◌, ◌*ℤ◌, ◌≡◌}
unfoldable pub use Rattle.whole_ring.specs.Determinants.{minor, triple}

-- ---- vectors

-- a vector, by its coordinates
pub record Vector : Type 0 where
  pub x : ℤ
  pub y : ℤ
  pub z : ℤ

-- the determinant of three vectors
abbrev pub det : Vector → Vector → Vector → ℤ
det u v w = triple u.x u.y u.z v.x v.y v.z w.x w.y w.z

-- the vector product u x v, which is orthogonal to both
abbrev pub cross : Vector → Vector → Vector
cross u v = record { x = minor u.y u.z v.y v.z; y = minor u.z u.x v.z v.x; z = minor u.x u.y v.x v.y }

-- the scalar product u . v
abbrev pub dot : Vector → Vector → ℤ
dot u v = u.x *ℤ v.x +ℤ u.y *ℤ v.y +ℤ u.z *ℤ v.z

-- the square of a vector's length
abbrev pub square : Vector → ℤ
square u = dot u u

-- every coordinate is 0
pub record IsZero (u : Vector) : Type 0 where
  pub x : u.x ≡ pos 0
  pub y : u.y ≡ pos 0
  pub z : u.z ≡ pos 0

-- ---- places

-- a place in space, by its coordinates
pub record Place : Type 0 where
  pub x : ℤ
  pub y : ℤ
  pub z : ℤ

-- the step from a to b, b - a
abbrev pub step : Place → Place → Vector
step a b = record { x = b.x -ℤ a.x; y = b.y -ℤ a.y; z = b.z -ℤ a.z }

-- the square of the distance of p from a
abbrev pub distance : Place → Place → ℤ
distance a p = square (step a p)

-- |p|^2, the square of the distance from the origin
abbrev pub square_of : Place → ℤ
square_of p = p.x *ℤ p.x +ℤ p.y *ℤ p.y +ℤ p.z *ℤ p.z

-- (b - a) x (c - a), the normal of the plane through three places; it is 0 where the three lie on one line
abbrev pub normal : Place → Place → Place → Vector
normal a b c = cross (step a b) (step a c)

-- The orientation of four places, (b - a) . ((c - a) x (d - a)). It is 0 where the four lie in one plane.
unfoldable pub orient : Place → Place → Place → Place → ℤ
orient a b c d = det (step a b) (step a c) (step a d)

-- ---- heights

-- a place that is lifted to a height, any whole number
pub record Lifted : Type 0 where
  pub foot : Place
  pub height : ℤ

-- a place lifted to the paraboloid, where its height is |p|^2
abbrev pub on_paraboloid : Place → Lifted
on_paraboloid p = record { foot = p; height = square_of p }

-- The lifted determinant of five lifted places. Where a, b, c, d have a positive orientation,
-- it is positive exactly where e is lifted above the plane through the other four.
unfoldable pub lifted : Lifted → Lifted → Lifted → Lifted → Lifted → ℤ
lifted a b c d e =
    orient a.foot b.foot c.foot d.foot *ℤ e.height
    -ℤ orient a.foot b.foot c.foot e.foot *ℤ d.height
    +ℤ orient a.foot b.foot d.foot e.foot *ℤ c.height
    -ℤ orient a.foot c.foot d.foot e.foot *ℤ b.height
    +ℤ orient b.foot c.foot d.foot e.foot *ℤ a.height

-- The in-sphere polynomial of five places: the lifted determinant on the paraboloid.
-- Where a, b, c, d have a positive orientation, it is positive outside the sphere through them and negative inside.
abbrev pub sphere : Place → Place → Place → Place → Place → ℤ
sphere a b c d e = lifted (on_paraboloid a) (on_paraboloid b) (on_paraboloid c) (on_paraboloid d) (on_paraboloid e)
