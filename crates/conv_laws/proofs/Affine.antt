-- The affine relation of five places, what it carries, and the relations of six places that follow from it.
use Rattle.std.specs.Prelude.{ℤ, pos, ◌*ℤ◌, ◌≡◌, ℕ, List, [], ◌∷◌}
use Rattle.std.proofs.Common.{sym}
use Rattle.whole_ring.specs.Poly.{Expr, var, lit, ◌⊕◌, ◌⊗◌, minus, ◌⊖◌, nothing, given}
use Rattle.whole_ring.proofs.Cited.{ring, ring_from}
use Rattle.conv_laws.specs.Places.{Place, orient, lifted, minor, triple}
use Rattle.conv_laws.specs.Affine.{weighted, WeightsAddUp, WeightsLocate, WeightsOfHeights, OrientCarried}
use Rattle.conv_laws.specs.Affine.{LiftedCarried, ThreeTerms, Pencil, PencilInPlane, Crossing}
use Rattle.conv_laws.proofs.Written.{Written, place, onto, all_of, o, weighted_w, raised}
use Rattle.conv_laws.proofs.Alternation.{orient_swap23, lifted_swap23}

-- the coordinates of five places
abbrev five : Place → Place → Place → Place → Place → List ℤ
five a b c d e = onto (a ∷ b ∷ c ∷ d ∷ e ∷ []) []

-- ---- the relation

-- the weights add up to the orientation of the four
pub weights_add_up : WeightsAddUp
unfolding orient triple minor
weights_add_up a b c d e = ring (o 1 3 2 4 ⊕ o 0 2 3 4 ⊕ o 0 3 1 4 ⊕ o 0 1 2 4) (o 0 1 2 3) (five a b c d e) tt

-- in one coordinate, which f takes out of each place
abbrev located : (Written → Expr) → Expr
located f = weighted_w (f (place 0)) (f (place 1)) (f (place 2)) (f (place 3))

-- the weights give e in each coordinate
pub weights_locate_x : (a b c d e : Place) → orient a b c d *ℤ e.x ≡ weighted a b c d e a.x b.x c.x d.x
unfolding orient triple minor
weights_locate_x a b c d e = ring (o 0 1 2 3 ⊗ var 12) (located (λ p. p.x)) (five a b c d e) tt

-- the same in the second coordinate
pub weights_locate_y : (a b c d e : Place) → orient a b c d *ℤ e.y ≡ weighted a b c d e a.y b.y c.y d.y
unfolding orient triple minor
weights_locate_y a b c d e = ring (o 0 1 2 3 ⊗ var 13) (located (λ p. p.y)) (five a b c d e) tt

-- the same in the third coordinate
pub weights_locate_z : (a b c d e : Place) → orient a b c d *ℤ e.z ≡ weighted a b c d e a.z b.z c.z d.z
unfolding orient triple minor
weights_locate_z a b c d e = ring (o 0 1 2 3 ⊗ var 14) (located (λ p. p.z)) (five a b c d e) tt

-- the three together
pub weights_locate : WeightsLocate
weights_locate a b c d e = (weights_locate_x a b c d e, weights_locate_y a b c d e, weights_locate_z a b c d e)

-- the lifted determinant is what the weights leave over of the height
pub weights_of_heights : WeightsOfHeights
unfolding orient lifted triple minor
weights_of_heights a b c d e =
    ring (o 0 1 2 3 ⊗ var 19) (raised 15 0 1 2 3 4 ⊕ weighted_w (var 15) (var 16) (var 17) (var 18))
    (all_of (a ∷ b ∷ c ∷ d ∷ e ∷ [])) tt

-- ---- what it carries

-- orientations are carried
pub orient_carried : OrientCarried
unfolding orient triple minor
orient_carried a b c d e k l m =
    ring (o 0 1 2 3 ⊗ o 5 6 7 4) (weighted_w (o 5 6 7 0) (o 5 6 7 1) (o 5 6 7 2) (o 5 6 7 3))
    (onto (a ∷ b ∷ c ∷ d ∷ e ∷ k ∷ l ∷ m ∷ []) []) tt

-- For the next law the orientations and the heights are the variables. First come those of a, b, c, d and e:
-- 0 of the four, 1 to 4 the weights, 5 of a b d e, 6 of b c d e. Then 7 of k l m n, and for each three of these
-- those with e, a, b, c, d: from 8 with k l m, from 13 with k l n, from 18 with k m n, from 23 with l m n.
-- Last the heights of e, a, b, c, d, from 28, and of k, l, m, n, from 33.

-- the lifted determinant of k l m n and a fifth: its height, and where the four orientations with it stand
abbrev seen : ℕ → ℕ → ℕ → ℕ → ℕ → Expr
seen h klm kln kmn lmn = var 7 ⊗ var h ⊖ var klm ⊗ var 36 ⊕ var kln ⊗ var 35 ⊖ var kmn ⊗ var 34 ⊕ var lmn ⊗ var 33

-- the weighted sum of four of the variables
abbrev spread : ℕ → ℕ → ℕ → ℕ → Expr
spread a b c d = var 1 ⊗ var a ⊕ var 2 ⊗ var b ⊕ var 3 ⊗ var c ⊕ var 4 ⊗ var d

-- lifted determinants are carried
pub lifted_carried : LiftedCarried
unfolding lifted
lifted_carried a' b' c' d' e' k' l' m' n' =
    let a = a'.foot in
    let b = b'.foot in
    let c = c'.foot in
    let d = d'.foot in
    let e = e'.foot in
    let k = k'.foot in
    let l = l'.foot in
    let m = m'.foot in
    let n = n'.foot in
    let p = var 0 in
    let wa = var 1 in
    let wb = var 2 in
    let wc = var 3 in
    let wd = var 4 in
    ring_from (p ⊗ seen 28 8 13 18 23)
    (var 7 ⊗ (p ⊗ var 28 ⊖ wd ⊗ var 32 ⊕ var 5 ⊗ var 31 ⊖ wb ⊗ var 30 ⊕ var 6 ⊗ var 29)
    ⊕ (wa ⊗ seen 29 9 14 19 24 ⊕ wb ⊗ seen 30 10 15 20 25 ⊕ wc ⊗ seen 31 11 16 21 26 ⊕ wd ⊗ seen 32 12 17 22 27))
    (given (minus (var 36)) (p ⊗ var 8) (spread 9 10 11 12)
    (given (var 35) (p ⊗ var 13) (spread 14 15 16 17)
    (given (minus (var 34)) (p ⊗ var 18) (spread 19 20 21 22)
    (given (var 33) (p ⊗ var 23) (spread 24 25 26 27)
    (given (minus (var 7 ⊗ var 31)) wc (minus (var 5)) (given (minus (var 7 ⊗ var 29)) wa (minus (var 6)) nothing))))))
    (orient a b c d ∷ orient b d c e ∷ orient a c d e ∷ orient a d b e ∷ orient a b c e ∷ orient a b d e
    ∷ orient b c d e ∷ orient k l m n
    ∷ orient k l m e ∷ orient k l m a ∷ orient k l m b ∷ orient k l m c ∷ orient k l m d
    ∷ orient k l n e ∷ orient k l n a ∷ orient k l n b ∷ orient k l n c ∷ orient k l n d
    ∷ orient k m n e ∷ orient k m n a ∷ orient k m n b ∷ orient k m n c ∷ orient k m n d
    ∷ orient l m n e ∷ orient l m n a ∷ orient l m n b ∷ orient l m n c ∷ orient l m n d
    ∷ e'.height ∷ a'.height ∷ b'.height ∷ c'.height ∷ d'.height ∷ k'.height ∷ l'.height ∷ m'.height ∷ n'.height ∷ []) (
      orient_carried a b c d e k l m,
      (
        orient_carried a b c d e k l n,
        (
          orient_carried a b c d e k m n,
          (
            orient_carried a b c d e l m n,
            (orient_swap23 a b d e, (orient_swap23 b c d e, tt)),
          ),
        ),
      ),
    ) tt

-- ---- relations of six places

-- the three-term relation around a common pair
pub three_terms : ThreeTerms
unfolding orient triple minor
three_terms a b c d x y =
    ring (o 0 1 2 3 ⊗ o 0 1 4 5 ⊖ o 0 1 2 4 ⊗ o 0 1 3 5 ⊕ o 0 1 2 5 ⊗ o 0 1 3 4) (lit (pos 0))
    (onto (a ∷ b ∷ c ∷ d ∷ x ∷ y ∷ []) []) tt

-- the relation of the pencil of spheres through three places
pub pencil : Pencil
unfolding orient lifted triple minor
pencil a b c x y z =
    ring (o 0 1 2 3 ⊗ raised 18 0 1 2 4 5 ⊖ o 0 1 2 4 ⊗ raised 18 0 1 2 3 5 ⊕ o 0 1 2 5 ⊗ raised 18 0 1 2 3 4)
    (lit (pos 0)) (all_of (a ∷ b ∷ c ∷ x ∷ y ∷ z ∷ [])) tt

-- in the plane of the three all spheres of the pencil agree
pub pencil_in_plane : PencilInPlane
pencil_in_plane a b c f g e flat =
    ring_from (var 0 ⊗ var 3) (var 1 ⊗ var 4)
    (given (lit (pos 1)) (var 0 ⊗ var 3 ⊖ var 1 ⊗ var 4 ⊕ var 2 ⊗ var 5) (lit (pos 0))
    (given (minus (var 5)) (var 2) (lit (pos 0)) nothing))
    (orient a.foot b.foot c.foot f.foot ∷ orient a.foot b.foot c.foot g.foot ∷ orient a.foot b.foot c.foot e.foot
    ∷ lifted a b c g e ∷ lifted a b c f e ∷ lifted a b c f g ∷ [])
    (pencil a b c f g e, (flat, tt)) tt

-- across a facet
pub crossing : Crossing
crossing a b c d f e =
    ring_from (var 7 ⊗ var 0 ⊖ var 4 ⊗ var 6) (var 2 ⊗ var 3)
    (given (lit (pos 1)) (lit (pos 0)) (var 0 ⊗ var 5 ⊖ var 1 ⊗ var 4 ⊕ var 2 ⊗ var 3)
    (given (var 0) (var 7) (minus (var 5)) (given (minus (var 4)) (var 6) (minus (var 1)) nothing)))
    (orient a.foot b.foot c.foot d.foot ∷ orient a.foot b.foot c.foot f.foot ∷ orient a.foot b.foot c.foot e.foot
    ∷ lifted a b c d f ∷ lifted a b c d e ∷ lifted a b c f e ∷ orient a.foot c.foot b.foot f.foot ∷ lifted a c b f e
    ∷ [])
    (sym (pencil a b c d f e), (lifted_swap23 a b c f e, (orient_swap23 a.foot b.foot c.foot f.foot, tt))) tt
