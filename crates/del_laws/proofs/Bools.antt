-- The test of four vertices of specs/Vertices says that they are a cell, at the perturbed heights.
--
use Rattle.std.specs.Prelude.{ℕ, pos, neg_ℤ, ◌≡◌, ◌≤ℤ◌, ◌<ℤ◌, Bool, true, not, ◌&&◌, ◌||◌, List, [], ◌∷◌, ◌⊎◌, Option}
use Rattle.std.specs.Prelude.{None}
use Rattle.std.specs.List.{list_all, find}
use Rattle.std.specs.Int.Signed.{lt_z, le_z}
use Rattle.std.proofs.Common.{refl, inl, inr, ap, sym, subst, ◌∙◌}
use Rattle.whole_ring.specs.Signs.{below, at_zero, above}
use Rattle.whole_ring.proofs.Cited.{sign}
use Rattle.list_laws.proofs.Cited.{IsFound, all_from, all_true, among_from, among_true, both_true, false_if, first_true}
use Rattle.list_laws.proofs.Cited.{found_from, high_of, is_at_zero, is_in, left_true, less_from, less_true, low_of}
use Rattle.list_laws.proofs.Cited.{most_from, most_true, not_from, not_true, not_zero, one_true, right_true, searched}
use Rattle.list_laws.proofs.Cited.{second_true, two_signs, weak, zero_weak}
use Rattle.point_order.specs.Orientation.{orientation, is_flat, is_zero, is_collinear, normal_x, normal_y, normal_z}
use Rattle.point_order.specs.Orientation.{minor, x_from, y_from, z_from}
use Rattle.point_order.specs.Heights.{height, lifted, out}
use Rattle.point_order.specs.Spheres.{is_outside}
use Rattle.point_order.specs.Sets.{IsIn, is_among}
use Rattle.point_order.specs.Complex.{is_full, is_open, is_open_from, is_empty_in_plane}
use Rattle.point_order.proofs.Cited.{not_zero_from, swap_middle, zero_false, zero_from, zero_true}
use Rattle.del_laws.specs.Cells.{Full, Open, Vertex, point, far, Held, OneOf}
use Rattle.del_laws.specs.Keys.{AreKeys}
use Rattle.del_laws.specs.Vertices.{are_among, is_full_cell, is_open_cell, is_cell}
use Rattle.del_laws.proofs.Identities.{lifted_swap23}
use Rattle.del_laws.proofs.CellFacts.{full_cell, full_a, full_b, full_c, full_d, full_turned, open_by_mate, open_a}
use Rattle.del_laws.proofs.CellFacts.{open_b, open_c, open_mate, open_bounds}
use Rattle.del_laws.proofs.Planes.{IsLine, line_flat, open_not_line}
use Rattle.del_laws.proofs.Walks.{strict, on}
use Rattle.del_laws.proofs.Strict.{strict_open, flat_three}
use Rattle.del_laws.proofs.Perturbed.{no_ties, out_is}

-- ---- spheres

-- outside a sphere whose points have a positive orientation
pub outside_above : (a b c d e : ℕ) → pos 0 <ℤ orientation a b c d → pos 0 <ℤ lifted height a b c d e →
    is_outside a b c d e ≡ true
outside_above a b c d e o l =
    left_true (lt_z (pos 0) (orientation a b c d) && lt_z (pos 0) (out a b c d e))
    (lt_z (orientation a b c d) (pos 0) && lt_z (out a b c d e) (pos 0))
    (both_true (lt_z (pos 0) (orientation a b c d)) (lt_z (pos 0) (out a b c d e))
    (less_true (pos 0) (orientation a b c d) o) (less_true (pos 0) (out a b c d e)
    (subst (λ z. pos 0 <ℤ z) (sym (out_is a b c d e)) l)))

-- a negative one
pub outside_below : (a b c d e : ℕ) → orientation a b c d <ℤ pos 0 → lifted height a b c d e <ℤ pos 0 →
    is_outside a b c d e ≡ true
outside_below a b c d e o l =
    right_true (lt_z (pos 0) (orientation a b c d) && lt_z (pos 0) (out a b c d e))
    (lt_z (orientation a b c d) (pos 0) && lt_z (out a b c d e) (pos 0))
    (both_true (lt_z (orientation a b c d) (pos 0)) (lt_z (out a b c d e) (pos 0))
    (less_true (orientation a b c d) (pos 0) o) (less_true (out a b c d e) (pos 0)
    (subst (λ z. z <ℤ pos 0) (sym (out_is a b c d e)) l)))

-- what it says of a positive orientation
pub above_from : (a b c d e : ℕ) → is_outside a b c d e ≡ true → pos 0 <ℤ orientation a b c d →
    pos 0 <ℤ lifted height a b c d e
above_from a b c d e t o =
    elim (one_true (lt_z (pos 0) (orientation a b c d) && lt_z (pos 0) (out a b c d e))
    (lt_z (orientation a b c d) (pos 0) && lt_z (out a b c d e) (pos 0)) t) [
      | inl u ↦ subst (λ z. pos 0 <ℤ z) (out_is a b c d e) (less_from (pos 0) (out a b c d e)
          (second_true (lt_z (pos 0) (orientation a b c d)) (lt_z (pos 0) (out a b c d e)) u))
      | inr u ↦ absurd (two_signs (orientation a b c d) o (less_from (orientation a b c d) (pos 0)
          (first_true (lt_z (orientation a b c d) (pos 0)) (lt_z (out a b c d e) (pos 0)) u)))
    ]

-- and of a negative one
pub below_from : (a b c d e : ℕ) → is_outside a b c d e ≡ true → orientation a b c d <ℤ pos 0 →
    lifted height a b c d e <ℤ pos 0
below_from a b c d e t o =
    elim (one_true (lt_z (pos 0) (orientation a b c d) && lt_z (pos 0) (out a b c d e))
    (lt_z (orientation a b c d) (pos 0) && lt_z (out a b c d e) (pos 0)) t) [
      | inr u ↦ subst (λ z. z <ℤ pos 0) (out_is a b c d e) (less_from (out a b c d e) (pos 0)
          (second_true (lt_z (orientation a b c d) (pos 0)) (lt_z (out a b c d e) (pos 0)) u))
      | inl u ↦ absurd (two_signs (orientation a b c d) (less_from (pos 0) (orientation a b c d)
          (first_true (lt_z (pos 0) (orientation a b c d)) (lt_z (pos 0) (out a b c d e)) u)) o)
    ]

-- ---- Full cells

-- the test of one point: it is a vertex or outside
abbrev passes : ℕ → ℕ → ℕ → ℕ → ℕ → Bool
passes a b c d e = is_among e (a ∷ b ∷ c ∷ d ∷ []) || is_outside a b c d e

-- the four are in the set, in a list
all_four : (s : List ℕ) (a b c d : ℕ) → IsIn a s → IsIn b s → IsIn c s → IsIn d s → are_among (a ∷ b ∷ c ∷ d ∷ []) s
    ≡ true
all_four s a b c d ma mb mc md =
    both_true (is_among a s) (is_among b s && (is_among c s && (is_among d s && true))) (among_true a s ma)
    (both_true (is_among b s) (is_among c s && (is_among d s && true)) (among_true b s mb)
    (both_true (is_among c s) (is_among d s && true) (among_true c s mc)
    (both_true (is_among d s) true (among_true d s md) refl)))

-- an order of the four in which they are a Full cell passes the test
full_true : (s : List ℕ) (a b c d : ℕ) → AreKeys s → Full height s a b c d → is_full_cell s a b c d ≡ true
full_true s a b c d k F =
    both_true (are_among (a ∷ b ∷ c ∷ d ∷ []) s) (is_full s (a ∷ b ∷ c ∷ d ∷ []))
    (all_four s a b c d (full_a F) (full_b F) (full_c F) (full_d F))
    (both_true (not (is_flat a b c d)) (list_all (passes a b c d) s)
    (not_true (is_flat a b c d) (zero_false (orientation a b c d) (not_zero (orientation a b c d) (full_turned F))))
    (all_true (passes a b c d) s each))
  where
    -- each point
    each : (e : ℕ) → IsIn e s → passes a b c d e ≡ true
    each e m = elim (is_in e (a ∷ b ∷ c ∷ d ∷ [])) [
      | yes i ↦ left_true (is_among e (a ∷ b ∷ c ∷ d ∷ [])) (is_outside a b c d e) (among_true e (a ∷ b ∷ c ∷ d ∷ []) i)
      | no i ↦ right_true (is_among e (a ∷ b ∷ c ∷ d ∷ [])) (is_outside a b c d e)
          (outside_above a b c d e (full_turned F) (strict (no_ties s k) F e m i))
    ]

-- the middle two are exchanged
four_turned : (e a b c d : ℕ) → OneOf e a c b d → OneOf e a b c d
four_turned e a b c d m = elim m [
  | inl q ↦ inl q
  | inr r ↦ elim r [ inl q ↦ inr (inr (inl q)) | inr u ↦ elim u [ inl q ↦ inr (inl q) | inr v ↦ inr (inr (inr v)) ] ]
]

-- so does the other order
full_true_turned : (s : List ℕ) (a b c d : ℕ) → AreKeys s → Full height s a c b d → is_full_cell s a b c d ≡ true
full_true_turned s a b c d k F =
    both_true (are_among (a ∷ b ∷ c ∷ d ∷ []) s) (is_full s (a ∷ b ∷ c ∷ d ∷ []))
    (all_four s a b c d (full_a F) (full_c F) (full_b F) (full_d F))
    (both_true (not (is_flat a b c d)) (list_all (passes a b c d) s)
    (not_true (is_flat a b c d) (zero_false (orientation a b c d) low_not))
    (all_true (passes a b c d) s each))
  where
    -- the orientation is negative
    low : orientation a b c d <ℤ pos 0
    low = low_of (orientation a b c d) (orientation a c b d) (full_turned F) (swap_middle a b c d)

    -- and not 0
    low_not : orientation a b c d ≡ pos 0 → ⊥
    low_not z = not_zero (orientation a c b d) (full_turned F) (swap_middle a b c d ∙ ap neg_ℤ z)

    -- each point
    each : (e : ℕ) → IsIn e s → passes a b c d e ≡ true
    each e m = elim (is_in e (a ∷ b ∷ c ∷ d ∷ [])) [
      | yes i ↦ left_true (is_among e (a ∷ b ∷ c ∷ d ∷ [])) (is_outside a b c d e) (among_true e (a ∷ b ∷ c ∷ d ∷ []) i)
      | no i ↦ right_true (is_among e (a ∷ b ∷ c ∷ d ∷ [])) (is_outside a b c d e)
          (outside_below a b c d e low (low_of (lifted height a b c d e) (lifted height a c b d e)
          (strict (no_ties s k) F e m (λ j. i (four_turned e a b c d j))) (lifted_swap23 height a b c d e)))
    ]

-- four points that pass are a Full cell in one order
full_from : (s : List ℕ) (a b c d : ℕ) → is_full_cell s a b c d ≡ true → Full height s a b c d ⊎ Full height s a c b d
full_from s a b c d t = elim (sign (orientation a b c d)) [
  | below l ↦ inr (full_cell (among_from a s first_in) (among_from c s third_in) (among_from b s second_in)
      (among_from d s fourth_in) (high_of (orientation a b c d) (orientation a c b d) l (swap_middle a b c d))
      (λ e m. elim (one_true (is_among e (a ∷ b ∷ c ∷ d ∷ [])) (is_outside a b c d e) (each e m)) [
        | inl i ↦ zero_weak (lifted height a c b d e) (on height a c b d e
            (four_turned e a c b d (among_from e (a ∷ b ∷ c ∷ d ∷ []) i)))
        | inr i ↦ weak (lifted height a c b d e) (high_of (lifted height a b c d e) (lifted height a c b d e)
            (below_from a b c d e i l) (lifted_swap23 height a b c d e))
      ]))
  | at_zero z ↦ absurd (not_zero_from (orientation a b c d) (not_from (is_flat a b c d)
      (first_true (not (is_flat a b c d)) (list_all (passes a b c d) s) full)) z)
  | above l ↦ inl (full_cell (among_from a s first_in) (among_from b s second_in) (among_from c s third_in)
      (among_from d s fourth_in) l
      (λ e m. elim (one_true (is_among e (a ∷ b ∷ c ∷ d ∷ [])) (is_outside a b c d e) (each e m)) [
        | inl i ↦ zero_weak (lifted height a b c d e) (on height a b c d e (among_from e (a ∷ b ∷ c ∷ d ∷ []) i))
        | inr i ↦ weak (lifted height a b c d e) (above_from a b c d e i l)
      ]))
]
  where
    -- the four are in the set
    inside : are_among (a ∷ b ∷ c ∷ d ∷ []) s ≡ true
    inside = first_true (are_among (a ∷ b ∷ c ∷ d ∷ []) s) (is_full s (a ∷ b ∷ c ∷ d ∷ [])) t

    -- they pass the definition
    full : is_full s (a ∷ b ∷ c ∷ d ∷ []) ≡ true
    full = second_true (are_among (a ∷ b ∷ c ∷ d ∷ []) s) (is_full s (a ∷ b ∷ c ∷ d ∷ [])) t

    -- one of them is in the set
    one_in : (x : ℕ) → IsIn x (a ∷ b ∷ c ∷ d ∷ []) → is_among x s ≡ true
    one_in x m = all_from (λ p. is_among p s) (a ∷ b ∷ c ∷ d ∷ []) inside x m

    -- the first
    first_in : is_among a s ≡ true
    first_in = one_in a (inl refl)

    -- the second
    second_in : is_among b s ≡ true
    second_in = one_in b (inr (inl refl))

    -- the third
    third_in : is_among c s ≡ true
    third_in = one_in c (inr (inr (inl refl)))

    -- the fourth
    fourth_in : is_among d s ≡ true
    fourth_in = one_in d (inr (inr (inr (inl refl))))

    -- each point passes
    each : (e : ℕ) → IsIn e s → passes a b c d e ≡ true
    each e m = all_from (passes a b c d) s (second_true (not (is_flat a b c d)) (list_all (passes a b c d) s) full) e m

-- ---- Open cells

-- the test of one point: it is a vertex, or off the plane, or outside the circle
abbrev keeps_out : ℕ → ℕ → ℕ → ℕ → ℕ → Bool
keeps_out a b c f e = is_among e (a ∷ b ∷ c ∷ []) || not (is_flat a b c e) || lt_z (pos 0) (out a b c f e)

-- a point above the plane
abbrev is_mate : ℕ → ℕ → ℕ → ℕ → Bool
is_mate a b c f = lt_z (pos 0) (orientation a b c f)

-- not below the plane
abbrev not_under : ℕ → ℕ → ℕ → ℕ → Bool
not_under a b c e = le_z (pos 0) (orientation a b c e)

-- an Open cell passes the test in its order
open_from_true : (s : List ℕ) (a b c : ℕ) → AreKeys s → Open height s a b c → is_open_from s a b c ≡ true
open_from_true s a b c k F =
    both_true (list_all (not_under a b c) s) (is_empty_in_plane s a b c (find (is_mate a b c) s))
    (all_true (not_under a b c) s (λ e m. most_true (pos 0) (orientation a b c e) (open_bounds F e m)))
    (by_mate (let k = open_mate F in found_from (is_mate a b c) s k.0 k.1
    (less_true (pos 0) (orientation a b c k.0) k.2)))
  where
    -- each point, for the mate that is found
    each : (f : IsFound (is_mate a b c) s) (e : ℕ) → IsIn e s → keeps_out a b c f.at e ≡ true
    each f e m =
        let i = is_among e (a ∷ b ∷ c ∷ []) in
        let j = not (is_flat a b c e) in
        let l = lt_z (pos 0) (out a b c f.at e) in
        elim (is_in e (a ∷ b ∷ c ∷ [])) [
          | yes m' ↦ left_true (i || j) l (left_true i j (among_true e (a ∷ b ∷ c ∷ []) m'))
          | no n ↦ elim (is_at_zero (orientation a b c e)) [
            | no z ↦ left_true (i || j) l (right_true i j (not_true (is_flat a b c e)
                (zero_false (orientation a b c e) z)))
            | yes z ↦ right_true (i || j) l (less_true (pos 0) (out a b c f.at e)
                (subst (λ v. pos 0 <ℤ v) (sym (out_is a b c f.at e))
                ((strict_open (no_ties s k) F).ties f.at e f.has m n
                (less_from (pos 0) (orientation a b c f.at) f.holds) z)))
          ]
        ]

    -- the tie rule for it
    by_mate : IsFound (is_mate a b c) s → is_empty_in_plane s a b c (find (is_mate a b c) s) ≡ true
    by_mate f =
        subst (λ (o : Option ℕ). is_empty_in_plane s a b c o ≡ true) (sym f.is)
        (all_true (keeps_out a b c f.at) s (each f))

-- what passes in an order is an Open cell in it
open_from_from : (s : List ℕ) (a b c : ℕ) → IsIn a s → IsIn b s → IsIn c s → is_open_from s a b c ≡ true →
    Open height s a b c
open_from_from s a b c ma mb mc t = elim (searched (is_mate a b c) s) [
  | inl n ↦ absurd (none (subst (λ (o : Option ℕ). is_empty_in_plane s a b c o ≡ true) n empty))
  | inr f ↦ open_by_mate ma mb mc f.at f.has (less_from (pos 0) (orientation a b c f.at) f.holds)
      (λ e m. most_from (pos 0) (orientation a b c e) (all_from (not_under a b c) s
      (first_true (list_all (not_under a b c) s) (is_empty_in_plane s a b c (find (is_mate a b c) s)) t) e m))
      (λ e m z. tie f e m z)
]
  where
    -- the tie rule
    empty : is_empty_in_plane s a b c (find (is_mate a b c) s) ≡ true
    empty = second_true (list_all (not_under a b c) s) (is_empty_in_plane s a b c (find (is_mate a b c) s)) t

    -- there is a mate
    none : is_empty_in_plane s a b c None ≡ true → ⊥
    none e = cc

    -- each point
    each : (f : IsFound (is_mate a b c) s) (e : ℕ) → IsIn e s → keeps_out a b c f.at e ≡ true
    each f e m =
        all_from (keeps_out a b c f.at) s (subst (λ (o : Option ℕ). is_empty_in_plane s a b c o ≡ true) f.is empty) e m

    -- in the plane
    tie : (f : IsFound (is_mate a b c) s) (e : ℕ) → IsIn e s → orientation a b c e ≡ pos 0 →
        pos 0 ≤ℤ lifted height a b c f.at e
    tie f e m z =
        let i = is_among e (a ∷ b ∷ c ∷ []) in
        let j = not (is_flat a b c e) in
        let l = lt_z (pos 0) (out a b c f.at e) in
        elim (one_true (i || j) l (each f e m)) [
          | inl r ↦ elim (one_true i j r) [
            | inl m' ↦ zero_weak (lifted height a b c f.at e) (flat_three height a b c f.at e
                (among_from e (a ∷ b ∷ c ∷ []) m'))
            | inr n ↦ absurd (not_zero_from (orientation a b c e) (not_from (is_flat a b c e) n) z)
          ]
          | inr o ↦ weak (lifted height a b c f.at e) (subst (λ v. pos 0 <ℤ v) (out_is a b c f.at e)
              (less_from (pos 0) (out a b c f.at e) o))
        ]

-- three points that are told to be on one line are
pub line_from : (a b c : ℕ) → is_collinear a b c ≡ true → IsLine a b c
unfolding normal_x normal_y normal_z minor x_from y_from z_from
line_from a b c t =
    let u = is_zero (normal_x a b c) in
    let v = is_zero (normal_y a b c) in
    let w = is_zero (normal_z a b c) in
    record {
      flat = record {
        x = zero_from (normal_x a b c) (first_true u v (first_true (u && v) w t));
        y = zero_from (normal_y a b c) (second_true u v (first_true (u && v) w t));
        z = zero_from (normal_z a b c) (second_true (u && v) w t);
      };
    }

-- and back
pub line_true : (a b c : ℕ) → IsLine a b c → is_collinear a b c ≡ true
unfolding normal_x normal_y normal_z minor x_from y_from z_from
line_true a b c l =
    let u = is_zero (normal_x a b c) in
    let v = is_zero (normal_y a b c) in
    let w = is_zero (normal_z a b c) in
    both_true (u && v) w (both_true u v (zero_true (normal_x a b c) l.flat.x) (zero_true (normal_y a b c) l.flat.y))
    (zero_true (normal_z a b c) l.flat.z)

-- the three are in the set, in a list
all_three : (s : List ℕ) (a b c : ℕ) → IsIn a s → IsIn b s → IsIn c s → are_among (a ∷ b ∷ c ∷ []) s ≡ true
all_three s a b c ma mb mc =
    both_true (is_among a s) (is_among b s && (is_among c s && true)) (among_true a s ma)
    (both_true (is_among b s) (is_among c s && true) (among_true b s mb)
    (both_true (is_among c s) true (among_true c s mc) refl))

-- an Open cell passes the test, in either order
open_true : (s : List ℕ) (a b c : ℕ) → AreKeys s → Open height s a c b ⊎ Open height s a b c →
    is_open_cell s a b c ≡ true
open_true s a b c k m = elim m [
  | inl F ↦ both_true (are_among (a ∷ b ∷ c ∷ []) s) (is_open s (a ∷ b ∷ c ∷ []))
      (all_three s a b c (open_a F) (open_c F) (open_b F))
      (both_true (not (is_collinear a b c)) (is_open_from s a b c || is_open_from s a c b)
      (not_true (is_collinear a b c) (false_if (is_collinear a b c)
      (λ t. (let k = open_mate F in not_zero (orientation a c b k.0) k.2
      (swap_middle a b c k.0 ∙ ap neg_ℤ (line_flat a b c k.0 (line_from a b c t)))))))
      (right_true (is_open_from s a b c) (is_open_from s a c b) (open_from_true s a c b k F)))
  | inr F ↦ both_true (are_among (a ∷ b ∷ c ∷ []) s) (is_open s (a ∷ b ∷ c ∷ []))
      (all_three s a b c (open_a F) (open_b F) (open_c F))
      (both_true (not (is_collinear a b c)) (is_open_from s a b c || is_open_from s a c b)
      (not_true (is_collinear a b c) (false_if (is_collinear a b c) (λ t. open_not_line F (line_from a b c t))))
      (left_true (is_open_from s a b c) (is_open_from s a c b) (open_from_true s a b c k F)))
]

-- and what passes is one
open_from_cell : (s : List ℕ) (a b c : ℕ) → is_open_cell s a b c ≡ true → Open height s a c b ⊎ Open height s a b c
open_from_cell s a b c t =
    elim (one_true (is_open_from s a b c) (is_open_from s a c b)
    (second_true (not (is_collinear a b c)) (is_open_from s a b c || is_open_from s a c b) shown)) [
      | inl i ↦ inr (open_from_from s a b c (one_in a (inl refl)) (one_in b (inr (inl refl)))
          (one_in c (inr (inr (inl refl)))) i)
      | inr i ↦ inl (open_from_from s a c b (one_in a (inl refl)) (one_in c (inr (inr (inl refl))))
          (one_in b (inr (inl refl))) i)
    ]
  where
    -- they pass the definition
    shown : is_open s (a ∷ b ∷ c ∷ []) ≡ true
    shown = second_true (are_among (a ∷ b ∷ c ∷ []) s) (is_open s (a ∷ b ∷ c ∷ [])) t

    -- one of them is in the set
    one_in : (x : ℕ) → IsIn x (a ∷ b ∷ c ∷ []) → IsIn x s
    one_in x m =
        among_from x s (all_from (λ p. is_among p s) (a ∷ b ∷ c ∷ [])
        (first_true (are_among (a ∷ b ∷ c ∷ []) s) (is_open s (a ∷ b ∷ c ∷ [])) t) x m)

-- ---- cells

-- a cell passes the test
pub cell_true : (s : List ℕ) → AreKeys s → (w x y z : Vertex) → Held height s w x y z → is_cell s w x y z ≡ true
cell_true s k (point a) (point b) (point c) (point d) m = elim m [
  | inl F ↦ full_true s a b c d k F
  | inr F ↦ full_true_turned s a b c d k F
]
cell_true s k (point a) (point b) (point c) far m = open_true s a b c k m
cell_true s k (point a) (point b) far (point c) m = open_true s a b c k m
cell_true s k (point a) (point b) far far m = absurd m
cell_true s k (point a) far (point b) (point c) m = open_true s a b c k m
cell_true s k (point a) far (point b) far m = absurd m
cell_true s k (point a) far far z m = absurd m
cell_true s k far (point a) (point b) (point c) m = open_true s a b c k m
cell_true s k far (point a) (point b) far m = absurd m
cell_true s k far (point a) far z m = absurd m
cell_true s k far far y z m = absurd m

-- and what passes it is a cell
pub cell_from : (s : List ℕ) (w x y z : Vertex) → is_cell s w x y z ≡ true → Held height s w x y z
cell_from s (point a) (point b) (point c) (point d) t = full_from s a b c d t
cell_from s (point a) (point b) (point c) far t = open_from_cell s a b c t
cell_from s (point a) (point b) far (point c) t = open_from_cell s a b c t
cell_from s (point a) (point b) far far t = cc
cell_from s (point a) far (point b) (point c) t = open_from_cell s a b c t
cell_from s (point a) far (point b) far t = cc
cell_from s (point a) far far z t = cc
cell_from s far (point a) (point b) (point c) t = open_from_cell s a b c t
cell_from s far (point a) (point b) far t = cc
cell_from s far (point a) far z t = cc
cell_from s far far y z t = cc
