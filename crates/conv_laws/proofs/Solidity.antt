-- Planes by their normals, and when all places lie in one plane or on one line.
use Rattle.std.specs.Prelude.{ℤ, pos, negsuc, ◌+ℤ◌, ◌-ℤ◌, ◌*ℤ◌, ◌≡◌, List, [], ◌∷◌}
use Rattle.std.proofs.Common.{◌∙◌}
use Rattle.whole_ring.specs.Poly.{Expr, var, lit, ◌⊕◌, ◌⊗◌, minus, ◌⊖◌, nothing, given}
use Rattle.whole_ring.proofs.Cited.{ring, ring_from}
use Rattle.list_laws.proofs.Cited.{first_factor, not_other, other_factor}
use Rattle.conv_laws.specs.Places.{Vector, cross, IsZero, Place, step, normal, orient, minor, triple}
use Rattle.conv_laws.specs.Solidity.{HeightOverPlane, CramersRule, NormalByHeights, OnePlane, OnlyOnLine, LineInPlane}
use Rattle.conv_laws.specs.Solidity.{ParallelVectors, OneLine}
use Rattle.conv_laws.proofs.Written.{Written, place, onto, det_w, cross_w, dot_w, step_w, normal_w, o}

-- ---- normals

-- the orientation is the height along the normal
pub height_over_plane : HeightOverPlane
unfolding orient triple minor
height_over_plane a b c y =
    ring (o 0 1 2 3) (dot_w (normal_w (place 0) (place 1) (place 2)) (step_w (place 0) (place 3)))
    (onto (a ∷ b ∷ c ∷ y ∷ []) []) tt

-- the coordinates of vectors, one after the other
abbrev along : List Vector → List ℤ
along [] = []
along (u ∷ us) = u.x ∷ u.y ∷ u.z ∷ along us

-- the right side of Cramer's rule in one coordinate, which f takes out of each vector; vector 0 is told by rows 1, 2, 3
abbrev told : (Written → Expr) → Expr
told f =
    dot_w (place 0) (place 1) ⊗ f (cross_w (place 2) (place 3))
    ⊕ dot_w (place 0) (place 2) ⊗ f (cross_w (place 3) (place 1))
    ⊕ dot_w (place 0) (place 3) ⊗ f (cross_w (place 1) (place 2))

-- the determinant of the three rows
abbrev rows : Expr
rows = det_w (place 1) (place 2) (place 3)

-- the rule in each coordinate
pub cramers_rule : CramersRule
unfolding minor triple
cramers_rule n u v w =
    let xs = along (n ∷ u ∷ v ∷ w ∷ []) in (
      ring (rows ⊗ var 0) (told (λ t. t.x)) xs tt,
      ring (rows ⊗ var 1) (told (λ t. t.y)) xs tt,
      ring (rows ⊗ var 2) (told (λ t. t.z)) xs tt,
    )

-- one coordinate of the normal of places 0, 1, 2, as places 3 to 6 see it
abbrev normal_of : (Written → Expr) → Expr
normal_of f = f (normal_w (place 0) (place 1) (place 2))

-- the same coordinate by heights
abbrev seen : (Written → Expr) → Expr
seen f =
    (o 0 1 2 4 ⊖ o 0 1 2 3) ⊗ f (normal_w (place 3) (place 5) (place 6))
    ⊕ (o 0 1 2 5 ⊖ o 0 1 2 3) ⊗ f (normal_w (place 3) (place 6) (place 4))
    ⊕ (o 0 1 2 6 ⊖ o 0 1 2 3) ⊗ f (normal_w (place 3) (place 4) (place 5))

-- the normal by heights, in each coordinate
pub normal_by_heights : NormalByHeights
unfolding orient triple minor
normal_by_heights a b c k l m n =
    let xs = onto (a ∷ b ∷ c ∷ k ∷ l ∷ m ∷ n ∷ []) [] in (
      ring (o 3 4 5 6 ⊗ normal_of (λ t. t.x)) (seen (λ t. t.x)) xs tt,
      ring (o 3 4 5 6 ⊗ normal_of (λ t. t.y)) (seen (λ t. t.y)) xs tt,
      ring (o 3 4 5 6 ⊗ normal_of (λ t. t.z)) (seen (λ t. t.z)) xs tt,
    )

-- ---- one plane

-- what is told by heights is 0 where the heights are
no_heights : (p q r hk hl hm hn : ℤ) → hk ≡ pos 0 → hl ≡ pos 0 → hm ≡ pos 0 → hn ≡ pos 0 →
    (hl -ℤ hk) *ℤ p +ℤ (hm -ℤ hk) *ℤ q +ℤ (hn -ℤ hk) *ℤ r ≡ pos 0
no_heights p q r hk hl hm hn ek el em en =
    ring_from ((var 4 ⊖ var 3) ⊗ var 0 ⊕ (var 5 ⊖ var 3) ⊗ var 1 ⊕ (var 6 ⊖ var 3) ⊗ var 2) (lit (pos 0))
    (given (minus (var 0 ⊕ var 1 ⊕ var 2)) (var 3) (lit (pos 0))
    (given (var 0) (var 4) (lit (pos 0)) (given (var 1) (var 5) (lit (pos 0))
    (given (var 2) (var 6) (lit (pos 0)) nothing))))
    (p ∷ q ∷ r ∷ hk ∷ hl ∷ hm ∷ hn ∷ []) (ek, (el, (em, (en, tt)))) tt

-- four independent places in the plane of three: these are on one line
pub only_on_line : OnlyOnLine
only_on_line a b c k l m n t ek el em en =
    let h = normal_by_heights a b c k l m n in
    let none = λ (p q r : ℤ). no_heights p q r (orient a b c k) (orient a b c l) (orient a b c m) (orient a b c n) ek el
    em en in
    record {
      x = other_factor (orient k l m n) (normal a b c).x t (h.0
          ∙ none (normal k m n).x (normal k n l).x (normal k l m).x);
      y = other_factor (orient k l m n) (normal a b c).y t (h.1
          ∙ none (normal k m n).y (normal k n l).y (normal k l m).y);
      z = other_factor (orient k l m n) (normal a b c).z t (h.2
          ∙ none (normal k m n).z (normal k n l).z (normal k l m).z);
    }

-- the other way round
pub one_plane : OnePlane
one_plane a b c k l m n t ek el em en = not_other (orient k l m n) (λ f. t (only_on_line a b c k l m n f ek el em en))

-- ---- one line

-- the scalar product with a vector that is 0
no_product : (p q r u v w : ℤ) → p ≡ pos 0 → q ≡ pos 0 → r ≡ pos 0 → p *ℤ u +ℤ q *ℤ v +ℤ r *ℤ w ≡ pos 0
no_product p q r u v w e f g =
    ring_from (var 0 ⊗ var 3 ⊕ var 1 ⊗ var 4 ⊕ var 2 ⊗ var 5) (lit (pos 0))
    (given (var 3) (var 0) (lit (pos 0)) (given (var 4) (var 1) (lit (pos 0))
    (given (var 5) (var 2) (lit (pos 0)) nothing)))
    (p ∷ q ∷ r ∷ u ∷ v ∷ w ∷ []) (e, (f, (g, tt))) tt

-- three places on one line have no height over their plane
pub line_in_plane : LineInPlane
line_in_plane a b c y l =
    height_over_plane a b c y
    ∙ no_product (normal a b c).x (normal a b c).y (normal a b c).z (step a y).x (step a y).y (step a y).z l.x l.y l.z

-- In the plane of two coordinates: a vector (p, q) to which (r, s) and (t, u) are parallel, so these are parallel,
-- times p and times q.
parallel_first : (p q r s t u : ℤ) → p *ℤ s -ℤ q *ℤ r ≡ pos 0 → p *ℤ u -ℤ q *ℤ t ≡ pos 0 →
    p *ℤ (r *ℤ u -ℤ s *ℤ t) ≡ pos 0
parallel_first p q r s t u e f =
    ring_from (var 0 ⊗ (var 2 ⊗ var 5 ⊖ var 3 ⊗ var 4)) (lit (pos 0))
    (given (var 2) (var 0 ⊗ var 5 ⊖ var 1 ⊗ var 4) (lit (pos 0))
    (given (minus (var 4)) (var 0 ⊗ var 3 ⊖ var 1 ⊗ var 2) (lit (pos 0)) nothing))
    (p ∷ q ∷ r ∷ s ∷ t ∷ u ∷ []) (f, (e, tt)) tt

-- and times q
parallel_second : (p q r s t u : ℤ) → p *ℤ s -ℤ q *ℤ r ≡ pos 0 → p *ℤ u -ℤ q *ℤ t ≡ pos 0 →
    q *ℤ (r *ℤ u -ℤ s *ℤ t) ≡ pos 0
parallel_second p q r s t u e f =
    ring_from (var 1 ⊗ (var 2 ⊗ var 5 ⊖ var 3 ⊗ var 4)) (lit (pos 0))
    (given (var 3) (var 0 ⊗ var 5 ⊖ var 1 ⊗ var 4) (lit (pos 0))
    (given (minus (var 5)) (var 0 ⊗ var 3 ⊖ var 1 ⊗ var 2) (lit (pos 0)) nothing))
    (p ∷ q ∷ r ∷ s ∷ t ∷ u ∷ []) (f, (e, tt)) tt

-- the same times the third coordinate of the vector (o, p, q), where (x, r, s) and (y, t, u) are parallel to it
parallel_third : (o p q x r s y t u : ℤ) → p *ℤ u -ℤ q *ℤ t ≡ pos 0 → q *ℤ x -ℤ o *ℤ s ≡ pos 0 →
    o *ℤ r -ℤ p *ℤ x ≡ pos 0 → o *ℤ (r *ℤ u -ℤ s *ℤ t) ≡ pos 0
parallel_third o p q x r s y t u e f g =
    ring_from (var 0 ⊗ (var 4 ⊗ var 8 ⊖ var 5 ⊗ var 7)) (lit (pos 0))
    (given (var 3) (var 1 ⊗ var 8 ⊖ var 2 ⊗ var 7) (lit (pos 0))
    (given (var 7) (var 2 ⊗ var 3 ⊖ var 0 ⊗ var 5) (lit (pos 0))
    (given (var 8) (var 0 ⊗ var 4 ⊖ var 1 ⊗ var 3) (lit (pos 0)) nothing)))
    (o ∷ p ∷ q ∷ x ∷ r ∷ s ∷ y ∷ t ∷ u ∷ []) (e, (f, (g, tt))) tt

-- one coordinate of the vector product of two vectors that are parallel to (o, p, q), which is not 0
parallel_coordinate : (o p q x r s y t u : ℤ) → (o ≡ pos 0 → p ≡ pos 0 → q ≡ pos 0 → ⊥) → p *ℤ s -ℤ q *ℤ r ≡ pos 0 →
    q *ℤ x -ℤ o *ℤ s ≡ pos 0 → o *ℤ r -ℤ p *ℤ x ≡ pos 0 → p *ℤ u -ℤ q *ℤ t ≡ pos 0 → r *ℤ u -ℤ s *ℤ t ≡ pos 0
parallel_coordinate o p q x r s y t u n e f g h =
    not_other (r *ℤ u -ℤ s *ℤ t) (λ k. n (first_factor o (r *ℤ u -ℤ s *ℤ t) k (parallel_third o p q x r s y t u h f g))
    (first_factor p (r *ℤ u -ℤ s *ℤ t) k (parallel_first p q r s t u e h))
    (first_factor q (r *ℤ u -ℤ s *ℤ t) k (parallel_second p q r s t u e h)))

-- each coordinate of the vector product of two vectors that are parallel to a third is 0
pub parallel_vectors : ParallelVectors
unfolding minor triple
parallel_vectors u v w n e f =
    record {
      x = parallel_coordinate u.x u.y u.z v.x v.y v.z w.x w.y w.z (λ a b c. n (record { x = a; y = b; z = c })) e.x e.y
          e.z f.x;
      y = parallel_coordinate u.y u.z u.x v.y v.z v.x w.y w.z w.x (λ a b c. n (record { x = c; y = a; z = b })) e.y e.z
          e.x f.y;
      z = parallel_coordinate u.z u.x u.y v.z v.x v.y w.z w.x w.y (λ a b c. n (record { x = b; y = c; z = a })) e.z e.x
          e.y f.z;
    }

-- steps from one place of a line to two others, in the plane of two coordinates
between : (p q a b k l m n : ℤ) → p *ℤ (l -ℤ b) -ℤ q *ℤ (k -ℤ a) ≡ pos 0 → p *ℤ (n -ℤ b) -ℤ q *ℤ (m -ℤ a) ≡ pos 0 →
    p *ℤ (n -ℤ l) -ℤ q *ℤ (m -ℤ k) ≡ pos 0
between p q a b k l m n e f =
    ring_from (var 0 ⊗ (var 7 ⊖ var 5) ⊖ var 1 ⊗ (var 6 ⊖ var 4)) (lit (pos 0))
    (given (lit (negsuc 0)) (var 0 ⊗ (var 5 ⊖ var 3) ⊖ var 1 ⊗ (var 4 ⊖ var 2)) (lit (pos 0))
    (given (lit (pos 1)) (var 0 ⊗ (var 7 ⊖ var 3) ⊖ var 1 ⊗ (var 6 ⊖ var 2)) (lit (pos 0)) nothing))
    (p ∷ q ∷ a ∷ b ∷ k ∷ l ∷ m ∷ n ∷ []) (e, (f, tt)) tt

-- a step between two places of the line of a and b is parallel to the step from a to b
along_line : (a b k l : Place) → IsZero (normal a b k) → IsZero (normal a b l) → IsZero (cross (step a b) (step k l))
unfolding minor triple
along_line a b k l e f =
    record {
      x = between (b.y -ℤ a.y) (b.z -ℤ a.z) a.y a.z k.y k.z l.y l.z e.x f.x;
      y = between (b.z -ℤ a.z) (b.x -ℤ a.x) a.z a.x k.z k.x l.z l.x e.y f.y;
      z = between (b.x -ℤ a.x) (b.y -ℤ a.y) a.x a.y k.x k.y l.x l.y e.z f.z;
    }

-- three places on the line of two
pub one_line : OneLine
one_line a b k l m n ek el em =
    parallel_vectors (step a b) (step k l) (step k m) n (along_line a b k l ek el) (along_line a b k m ek em)
