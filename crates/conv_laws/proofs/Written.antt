-- The words of specs/Places as expressions: each computes to its value at the coordinates of a list of places.
use Rattle.std.specs.Prelude.{ℤ, ℕ, ◌+◌, ◌*◌, List, [], ◌∷◌}
use Rattle.whole_ring.specs.Poly.{Expr, var, ◌⊕◌, ◌⊗◌, ◌⊖◌}
use Rattle.conv_laws.specs.Places.{Place, Lifted}

-- a place or a vector, by the expressions of its coordinates
pub record Written : Type 0 where
  pub x : Expr
  pub y : Expr
  pub z : Expr

-- the place number n of the list
abbrev pub place : ℕ → Written
place n = record { x = var (3 * n); y = var (3 * n + 1); z = var (3 * n + 2) }

-- the coordinates of places, one after the other, and then other numbers
abbrev pub onto : List Place → List ℤ → List ℤ
onto [] rest = rest
onto (p ∷ ps) rest = p.x ∷ p.y ∷ p.z ∷ onto ps rest

-- the words on vectors
abbrev pub minor_w : Expr → Expr → Expr → Expr → Expr
minor_w p q r s = p ⊗ s ⊖ q ⊗ r

-- the determinant of three vectors
abbrev pub det_w : Written → Written → Written → Expr
det_w u v w = u.x ⊗ minor_w v.y v.z w.y w.z ⊕ u.y ⊗ minor_w v.z v.x w.z w.x ⊕ u.z ⊗ minor_w v.x v.y w.x w.y

-- the vector product of two
abbrev pub cross_w : Written → Written → Written
cross_w u v = record { x = minor_w u.y u.z v.y v.z; y = minor_w u.z u.x v.z v.x; z = minor_w u.x u.y v.x v.y }

-- the scalar product of two
abbrev pub dot_w : Written → Written → Expr
dot_w u v = u.x ⊗ v.x ⊕ u.y ⊗ v.y ⊕ u.z ⊗ v.z

-- the words on places
abbrev pub step_w : Written → Written → Written
step_w a b = record { x = b.x ⊖ a.x; y = b.y ⊖ a.y; z = b.z ⊖ a.z }

-- the square of a place's distance from the origin
abbrev pub square_w : Written → Expr
square_w p = p.x ⊗ p.x ⊕ p.y ⊗ p.y ⊕ p.z ⊗ p.z

-- the square of the distance of two places
abbrev pub distance_w : Written → Written → Expr
distance_w a p = square_w (step_w a p)

-- the normal of three places
abbrev pub normal_w : Written → Written → Written → Written
normal_w a b c = cross_w (step_w a b) (step_w a c)

-- the orientation of four
abbrev pub orient_w : Written → Written → Written → Written → Expr
orient_w a b c d = det_w (step_w a b) (step_w a c) (step_w a d)

-- the orientation of places by their numbers
abbrev pub o : ℕ → ℕ → ℕ → ℕ → Expr
o i j k l = orient_w (place i) (place j) (place k) (place l)

-- four expressions, each times a weight of place 4 at places 0 to 3, added up
abbrev pub weighted_w : Expr → Expr → Expr → Expr → Expr
weighted_w p q r s = o 1 3 2 4 ⊗ p ⊕ o 0 2 3 4 ⊗ q ⊕ o 0 3 1 4 ⊗ r ⊕ o 0 1 2 4 ⊗ s

-- a place with a height
pub record WrittenLifted : Type 0 where
  pub foot : Written
  pub height : Expr

-- place number n, its height being the variable i
abbrev pub lift : ℕ → ℕ → WrittenLifted
lift n i = record { foot = place n; height = var i }

-- a place on the paraboloid
abbrev pub on_paraboloid_w : Written → WrittenLifted
on_paraboloid_w p = record { foot = p; height = square_w p }

-- the lifted determinant
abbrev pub lifted_w : WrittenLifted → WrittenLifted → WrittenLifted → WrittenLifted → WrittenLifted → Expr
lifted_w a b c d e =
    orient_w a.foot b.foot c.foot d.foot ⊗ e.height ⊖ orient_w a.foot b.foot c.foot e.foot ⊗ d.height
    ⊕ orient_w a.foot b.foot d.foot e.foot ⊗ c.height ⊖ orient_w a.foot c.foot d.foot e.foot ⊗ b.height
    ⊕ orient_w b.foot c.foot d.foot e.foot ⊗ a.height

-- the lifted determinant of places by their numbers, the height of place i being the variable s + i
abbrev pub raised : ℕ → ℕ → ℕ → ℕ → ℕ → ℕ → Expr
raised s i j k l m = lifted_w (lift i (s + i)) (lift j (s + j)) (lift k (s + k)) (lift l (s + l)) (lift m (s + m))

-- the feet of lifted places
abbrev pub feet : List Lifted → List Place
feet [] = []
feet (a ∷ rest) = a.foot ∷ feet rest

-- their heights
abbrev pub heights : List Lifted → List ℤ
heights [] = []
heights (a ∷ rest) = a.height ∷ heights rest

-- the coordinates of the feet, three for each, and then the heights
abbrev pub all_of : List Lifted → List ℤ
all_of places = onto (feet places) (heights places)
