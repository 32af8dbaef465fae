-- Sets of points: when two are one, the points of a set with and without a point, and solid sets.
use Rattle.std.specs.Prelude.{◌≡◌, refl, ℕ, ◌<◌, ◌^◌, Bool, true, false, not, ◌&&◌, ◌||◌, ◌==◌, nat_lt, List, [], ◌∷◌}
use Rattle.std.specs.Prelude.{map}
use Rattle.std.specs.List.{list_any}
use Rattle.std.proofs.Common.{arith, inl, inr, ap, sym, subst, ◌∙◌}
use Rattle.std.proofs.lemmas.Bool.Decides.{nat_tests}
use Rattle.std.proofs.Math.Bool.{Bool-set}
use Rattle.list_laws.specs.Lists.{AreDistinct}
use Rattle.list_laws.proofs.Cited.{among_from, among_true, any_from, any_true, below_each, below_from, below_true}
use Rattle.list_laws.proofs.Cited.{both_true, filtered_ascending, filtered_from, filtered_true, first_true, left_true}
use Rattle.list_laws.proofs.Cited.{not_both, not_from, not_true, one_true, right_true, same_from, same_members}
use Rattle.list_laws.proofs.Cited.{same_test, same_true, second_true}
use Rattle.point_order.specs.Coordinates.{IsKey}
use Rattle.point_order.specs.Orientation.{orientation, is_flat}
use Rattle.point_order.specs.Sets.{IsIn, IsAscending, IsBelowFirst, is_among, with_point, without_point}
use Rattle.point_order.specs.Solid.{is_solid}
use Rattle.point_order.proofs.Cited.{ascending_with, in_with, in_with_new, in_with_old, not_zero_from, zero_false}
use Rattle.del_laws.specs.Cells.{Vertex, point, far, IsSolid, IsSubset}
use Rattle.del_laws.specs.Keys.{AreKeys}
use Rattle.del_laws.specs.PointSets.{is_below_first, is_point_set, PointSet, same_vertex, is_point, set_or, minus}
use Rattle.del_laws.specs.PointSets.{vertices, has_as_point, set_with}
use Rattle.del_laws.specs.Base.{Within}
use Rattle.del_laws.proofs.Pairs.{same_point, far_point}

-- ---- lists that are sets

-- the list is ascending
pub ascending_from : (l : List ℕ) → is_point_set l ≡ true → IsAscending l
ascending_from [] e = tt
ascending_from (x ∷ xs) e = (
  first_of xs (second_true (nat_lt x (2 ^ 42)) (is_below_first x xs)
      (first_true (nat_lt x (2 ^ 42) && is_below_first x xs) (is_point_set xs) e)),
  ascending_from xs (second_true (nat_lt x (2 ^ 42) && is_below_first x xs) (is_point_set xs) e),
)
  where
    -- below the first
    first_of : (l : List ℕ) → is_below_first x l ≡ true → IsBelowFirst x l
    first_of [] t = tt
    first_of (y ∷ ys) t = below_from x y t

-- its numbers are keys
pub key_from : (l : List ℕ) → is_point_set l ≡ true → (p : ℕ) → IsIn p l → IsKey p
key_from [] e p m = absurd m
key_from (x ∷ xs) e p m = elim m [
  | inl q ↦ subst IsKey q (below_from x (2 ^ 42) (first_true (nat_lt x (2 ^ 42)) (is_below_first x xs)
      (first_true (nat_lt x (2 ^ 42) && is_below_first x xs) (is_point_set xs) e)))
  | inr r ↦ key_from xs (second_true (nat_lt x (2 ^ 42) && is_below_first x xs) (is_point_set xs) e) p r
]

-- and the other way round
pub set_true : (l : List ℕ) → IsAscending l → ((p : ℕ) → IsIn p l → IsKey p) → is_point_set l ≡ true
set_true [] a k = refl
set_true (x ∷ xs) a k =
    both_true (nat_lt x (2 ^ 42) && is_below_first x xs) (is_point_set xs)
    (both_true (nat_lt x (2 ^ 42)) (is_below_first x xs) (below_true x (2 ^ 42) (k x (inl refl))) (first_of xs a.0))
    (set_true xs a.1 (λ p m. k p (inr m)))
  where
    -- below the first
    first_of : (l : List ℕ) → IsBelowFirst x l → is_below_first x l ≡ true
    first_of [] t = refl
    first_of (y ∷ ys) t = below_true x y t

-- the points of a set are ascending
pub ascending_of : (s : PointSet) → IsAscending s.points
ascending_of s = ascending_from s.points s.valid

-- and keys
pub keys_of : (s : PointSet) → AreKeys s.points
keys_of s = record { below = key_from s.points s.valid }

-- a list that is a set gives it
set_or_is : (l : List ℕ) (b : Bool) (e : is_point_set l ≡ b) (s : PointSet) → is_point_set l ≡ true →
    (set_or l b e s).points ≡ l
set_or_is l true e s t = refl
set_or_is l false e s t = absurd (not_both (is_point_set l) t e)

-- ---- members

-- a point of the set
pub has_from : (s : PointSet) (a : ℕ) → has_as_point s (point a) ≡ true → IsIn a s.points
has_from s a e = among_from a s.points e

-- and back
pub has_true : (s : PointSet) (a : ℕ) → IsIn a s.points → has_as_point s (point a) ≡ true
has_true s a m = among_true a s.points m

-- the set of a list
made : (l : List ℕ) → is_point_set l ≡ true → PointSet
made l e = record { points = l; valid = e }

-- sets with the same list are one
along : (l m : List ℕ) (e : is_point_set l ≡ true) (f : is_point_set m ≡ true) → l ≡ m → made l e ≡ made m f
along l m e f q =
    let P : List ℕ → Type 0 = λ n. (k : is_point_set n ≡ true) → made l e ≡ made n k in
    (subst P q (λ k. ap (made l) (Bool-set (is_point_set l) true e k))) f

-- sets with the same points are one
pub extensional : (s t : PointSet) → ((q : Vertex) → has_as_point s q ≡ has_as_point t q) → s ≡ t
unfolding made
extensional s t f =
    along s.points t.points s.valid t.valid (same_members s.points t.points (ascending_of s) (ascending_of t)
    (λ p m. has_from t p (sym (f (point p)) ∙ has_true s p m)) (λ p m. has_from s p (f (point p) ∙ has_true t p m)))

-- ---- with a point and without one

-- the list with a key is a set
with_valid : (s : PointSet) (a : ℕ) → IsKey a → is_point_set (with_point a s.points) ≡ true
with_valid s a k =
    set_true (with_point a s.points) (ascending_with a s.points (ascending_of s))
    (λ p m. elim (in_with a p s.points m) [
      | inl e ↦ subst IsKey e k
      | inr r ↦ key_from s.points s.valid p r
    ])

-- the points of the set with a point
pub plus_points : (s : PointSet) (a : ℕ) → IsKey a → (set_with s (point a)).points ≡ with_point a s.points
unfolding set_with
plus_points s a k = set_or_is (with_point a s.points) (is_point_set (with_point a s.points)) refl s (with_valid s a k)

-- the list without a point is a set
without_valid : (s : PointSet) (a : ℕ) → is_point_set (without_point a s.points) ≡ true
without_valid s a =
    set_true (without_point a s.points) (filtered_ascending (λ q. not (q == a)) s.points (ascending_of s))
    (λ p m. key_from s.points s.valid p (filtered_from (λ q. not (q == a)) s.points p m).0)

-- the points of the set without a point
pub minus_points : (s : PointSet) (a : ℕ) → (minus s (point a)).points ≡ without_point a s.points
unfolding minus
minus_points s a =
    set_or_is (without_point a s.points) (is_point_set (without_point a s.points)) refl s (without_valid s a)

-- which points the set with a point has
pub has_plus : (s : PointSet) (p q : Vertex) → is_point p ≡ true →
    has_as_point (set_with s p) q ≡ (same_vertex p q || has_as_point s q)
has_plus s far q e = cc
has_plus s (point a) far e = refl
has_plus s (point a) (point b) e =
    let i = plus_points s a (below_from a (2 ^ 42) e) in
    ap (λ l. is_among b l) i
    ∙ same_test (is_among b (with_point a s.points)) ((a == b) || is_among b s.points)
    (λ t. elim (in_with a b s.points (among_from b (with_point a s.points) t)) [
      | inl q ↦ left_true (a == b) (is_among b s.points) (same_true a b q)
      | inr r ↦ right_true (a == b) (is_among b s.points) (among_true b s.points r)
    ])
    (λ t. among_true b (with_point a s.points) (elim (one_true (a == b) (is_among b s.points) t) [
      | inl q ↦ subst (λ x. IsIn x (with_point a s.points)) (same_from a b q) (in_with_new a s.points)
      | inr r ↦ in_with_old a b s.points (among_from b s.points r)
    ]))

-- which points the set without a point has
pub has_minus : (s : PointSet) (p q : Vertex) → has_as_point (minus s p) q ≡ (not (same_vertex p q) && has_as_point s q)
unfolding minus
has_minus s far far = refl
has_minus s far (point b) = refl
has_minus s (point a) far = no_more (not false)
  where
    -- nothing is in it
    no_more : (t : Bool) → false ≡ (t && false)
    no_more true = refl
    no_more false = refl
has_minus s (point a) (point b) =
    ap (λ l. is_among b l) (minus_points s a)
    ∙ same_test (is_among b (without_point a s.points)) (not (a == b) && is_among b s.points)
    (λ t. (
    let k = filtered_from (λ q. not (q == a)) s.points b (among_from b (without_point a s.points) t) in
    both_true (not (a == b)) (is_among b s.points) (turned b a k.1) (among_true b s.points k.0)))
    (λ t. among_true b (without_point a s.points) (filtered_true (λ q. not (q == a)) s.points b
    (among_from b s.points (second_true (not (a == b)) (is_among b s.points) t))
    (turned a b (first_true (not (a == b)) (is_among b s.points) t))))
  where
    -- two numbers that differ
    turned : (m n : ℕ) → not (m == n) ≡ true → not (n == m) ≡ true
    turned m n e = grind (arith, nat_tests)

-- the points of a set are points
pub finite : (s : PointSet) (q : Vertex) → has_as_point s q ≡ true → is_point q ≡ true
finite s far e = cc
finite s (point a) e = below_true a (2 ^ 42) (key_from s.points s.valid a (has_from s a e))

-- one set within another
pub within : (s t : PointSet) → Within PointSet has_as_point t s → IsSubset t.points s.points
within s t f = record { inside = λ q m. has_from s q (f (point q) (has_true t q m)) }

-- ---- solid sets

-- the test finds four independent points
pub solid_from : (s : List ℕ) → is_solid s ≡ true → IsSolid s
solid_from s e =
    let ra = any_from (λ a. list_any (λ b. list_any (λ c. list_any (λ d. not (is_flat a b c d)) s) s) s) s e in
    let a = ra.0 in
    let rb = any_from (λ b. list_any (λ c. list_any (λ d. not (is_flat a b c d)) s) s) s ra.2 in
    let b = rb.0 in
    let rc = any_from (λ c. list_any (λ d. not (is_flat a b c d)) s) s rb.2 in
    let c = rc.0 in
    let rd = any_from (λ d. not (is_flat a b c d)) s rc.2 in
    record {
      f = record { a = a; b = b; c = c; d = rd.0 };
      has_a = ra.1;
      has_b = rb.1;
      has_c = rc.1;
      has_d = rd.1;
      apart = not_zero_from (orientation a b c rd.0) (not_from (is_flat a b c rd.0) rd.2);
    }

-- and where there are four it passes
pub solid_true : (s : List ℕ) → IsSolid s → is_solid s ≡ true
solid_true s i =
    let a = i.f.a in
    let b = i.f.b in
    let c = i.f.c in
    let d = i.f.d in
    any_true (λ a. list_any (λ b. list_any (λ c. list_any (λ d. not (is_flat a b c d)) s) s) s) s a i.has_a
    (any_true (λ b. list_any (λ c. list_any (λ d. not (is_flat a b c d)) s) s) s b i.has_b
    (any_true (λ c. list_any (λ d. not (is_flat a b c d)) s) s c i.has_c
    (any_true (λ d. not (is_flat a b c d)) s d i.has_d (not_true (is_flat a b c d)
    (zero_false (orientation a b c d) i.apart)))))

-- a list with the points of a solid one is solid
pub solid_more : (s t : List ℕ) → ((e : ℕ) → IsIn e s → IsIn e t) → is_solid s ≡ true → is_solid t ≡ true
solid_more s t f e =
    let i = solid_from s e in
    solid_true t (record {
      f = i.f;
      has_a = f i.f.a i.has_a;
      has_b = f i.f.b i.has_b;
      has_c = f i.f.c i.has_c;
      has_d = f i.f.d i.has_d;
      apart = i.apart;
    })

-- ---- vertices

-- a point of the list is a vertex of it
pub in_map : (k : ℕ) (l : List ℕ) → IsIn k l → IsIn (point k) (map point l)
in_map k [] m = absurd m
in_map k (x ∷ l) m = elim m [ inl e ↦ inl (ap point e) | inr r ↦ inr (in_map k l r) ]

-- and back
from_map : (k : ℕ) (l : List ℕ) → IsIn (point k) (map point l) → IsIn k l
from_map k [] m = absurd m
from_map k (x ∷ l) m = elim m [ inl e ↦ inl (same_point x k e) | inr r ↦ inr (from_map k l r) ]

-- the infinite vertex is none of them
no_far : (l : List ℕ) → IsIn far (map point l) → ⊥
no_far [] m = m
no_far (x ∷ l) m = elim m [ inl e ↦ far_point x (sym e) | inr r ↦ no_far l r ]

-- an ascending list has each number once
distinct_map : (l : List ℕ) → IsAscending l → AreDistinct (map point l)
distinct_map [] a = tt
distinct_map (x ∷ l) a = (λ m. not_less x (below_each x l a.0 a.1 x (from_map x l m)), distinct_map l a.1)
  where
    -- no number is below itself
    not_less : (n : ℕ) → n < n → ⊥
    not_less n e = omega arith

-- the vertices of a set are distinct
pub distinct_vertices : (s : PointSet) → AreDistinct (vertices s)
distinct_vertices s = (no_far s.points, distinct_map s.points (ascending_of s))

-- ---- a list as a set
