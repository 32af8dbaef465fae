-- Which cells stay when a point is added, by the tests of conflict.
use Rattle.std.specs.Prelude.{◌≡◌, refl, ℕ, ℤ, pos, ◌≤ℤ◌, ◌<ℤ◌, Bool, true, false, not, ◌&&◌, ◌||◌, List, [], ◌∷◌}
use Rattle.std.specs.Int.Signed.{lt_z}
use Rattle.std.proofs.Common.{arith, inl, inr, sym, subst}
use Rattle.std.proofs.lemmas.Int.{ints}
use Rattle.whole_ring.specs.Signs.{Sign, below, at_zero, above}
use Rattle.whole_ring.proofs.Cited.{sign}
use Rattle.list_laws.proofs.Cited.{clash, high_of, low_of, negative_of_zero, not_both, not_from, not_true, not_zero}
use Rattle.list_laws.proofs.Cited.{positive, same_test, weak, zero_weak}
use Rattle.point_order.specs.Coordinates.{IsKey}
use Rattle.point_order.specs.Orientation.{orientation, is_zero}
use Rattle.point_order.specs.Heights.{height, lifted, out}
use Rattle.point_order.specs.Spheres.{is_outside}
use Rattle.point_order.specs.Sets.{IsIn, with_point}
use Rattle.point_order.specs.Conflicts.{is_open_conflict}
use Rattle.point_order.proofs.Cited.{in_with, in_with_new, in_with_old, not_zero_from, swap_middle}
use Rattle.del_laws.specs.Cells as cells
use Rattle.del_laws.specs.Cells.{point, far, Held, OneOf, NoTies, IsOutside}
use Rattle.del_laws.specs.Keys.{AreKeys}
use Rattle.del_laws.specs.Vertices.{is_full_cell, is_open_cell}
use Rattle.del_laws.specs.Kept.{FullIsKept, OpenIsKept}
use Rattle.del_laws.proofs.Identities.{lifted_swap23}
use Rattle.del_laws.proofs.Lists.{of_four}
use Rattle.del_laws.proofs.CellFacts.{full_point, full_turned, full_against, full_same, open_a, open_b, open_c}
use Rattle.del_laws.proofs.CellFacts.{open_bounds, open_ties, open_under, open_same}
use Rattle.del_laws.proofs.Walks.{strict}
use Rattle.del_laws.proofs.Conflict.{full_stays, open_stays}
use Rattle.del_laws.proofs.Perturbed.{no_ties, out_is}
use Rattle.del_laws.proofs.Bools.{cell_true, cell_from, outside_above, outside_below, above_from, below_from}

-- ---- the set with the point

-- its numbers are keys
pub with_keys : (s : List ℕ) (p : ℕ) → AreKeys s → IsKey p → AreKeys (with_point p s)
with_keys s p k j = record { below = λ q m. elim (in_with p q s m) [ inl e ↦ subst IsKey e j | inr r ↦ k.below q r ] }

-- it has the points of the list with p in front
to_with : (s : List ℕ) (p e : ℕ) → IsIn e (p ∷ s) → IsIn e (with_point p s)
to_with s p e m = elim m [
  | inl q ↦ subst (λ v. IsIn v (with_point p s)) q (in_with_new p s)
  | inr r ↦ in_with_old p e s r
]

-- and no others
from_with : (s : List ℕ) (p e : ℕ) → IsIn e (with_point p s) → IsIn e (p ∷ s)
from_with s p e m = in_with p e s m

-- a negative number is not positive
low_most : (z : ℤ) → z <ℤ pos 0 → z ≤ℤ pos 0
low_most z e = omega (arith, ints)

-- twice denied
denied_twice : (b : Bool) → b ≡ true → not (not b) ≡ true
denied_twice true e = refl
denied_twice false e = cc

-- and back
twice_from : (b : Bool) → not (not b) ≡ true → b ≡ true
twice_from true e = refl
twice_from false e = cc

-- ---- Full cells

module _ (s : List ℕ) (p : ℕ) (k : AreKeys s) (j : IsKey p) (o : IsIn p s → ⊥) where
  -- p is no vertex of a cell
  no_vertex : {a b c d : ℕ} → cells.Full height s a b c d → ¬ (OneOf p a b c d)
  no_vertex {a} {b} {c} {d} F m = o (full_point F m)

  -- a Full cell of the set with p does not have p inside
  kept_full : {a b c d : ℕ} → ¬ (OneOf p a b c d) → cells.Full height (with_point p s) a b c d →
      pos 0 <ℤ lifted height a b c d p
  kept_full n F = strict (no_ties (with_point p s) (with_keys s p k j)) F p (in_with_new p s) n

  -- and a Full cell that does not stays
  stays_full : {a b c d : ℕ} → cells.Full height s a b c d → pos 0 <ℤ lifted height a b c d p →
      cells.Full height (with_point p s) a b c d
  stays_full {a} {b} {c} {d} F l =
      full_same (to_with s p) (from_with s p) (full_stays F (weak (lifted height a b c d p) l))

  -- four points in an order of positive orientation
  full_above : (a b c d : ℕ) → cells.Full height s a b c d → is_full_cell (with_point p s) a b c d
      ≡ not (not (is_outside a b c d p))
  full_above a b c d F = same_test (is_full_cell (with_point p s) a b c d) (not (not (is_outside a b c d p)))
      (λ t. denied_twice (is_outside a b c d p) (elim (cell_from (with_point p s) (point a) (point b) (point c)
      (point d) t) [
        | inl G ↦ outside_above a b c d p (full_turned F) (kept_full (no_vertex F) G)
        | inr G ↦ absurd (full_against F G)
      ]))
      (λ t. cell_true (with_point p s) (with_keys s p k j) (point a) (point b) (point c) (point d)
      (inl (stays_full F (above_from a b c d p (twice_from (is_outside a b c d p) t) (full_turned F)))))

  -- in an order of negative orientation
  full_below : (a b c d : ℕ) → cells.Full height s a c b d → is_full_cell (with_point p s) a b c d
      ≡ not (not (is_outside a b c d p))
  full_below a b c d F =
      let low : orientation a b c d <ℤ pos 0 =
      low_of (orientation a b c d) (orientation a c b d) (full_turned F) (swap_middle a b c d) in
      same_test (is_full_cell (with_point p s) a b c d) (not (not (is_outside a b c d p)))
      (λ t. denied_twice (is_outside a b c d p) (elim (cell_from (with_point p s) (point a) (point b) (point c)
      (point d) t) [
        | inl G ↦ absurd (full_against F G)
        | inr G ↦ outside_below a b c d p low (low_of (lifted height a b c d p) (lifted height a c b d p)
            (kept_full (no_vertex F) G) (lifted_swap23 height a b c d p))
      ]))
      (λ t. cell_true (with_point p s) (with_keys s p k j) (point a) (point b) (point c) (point d)
      (inr (stays_full F (high_of (lifted height a b c d p) (lifted height a c b d p)
      (below_from a b c d p (twice_from (is_outside a b c d p) t) low) (lifted_swap23 height a b c d p)))))

-- a Full cell is kept where it is not in conflict
pub full_is_kept : FullIsKept
full_is_kept s a b c d m p k j o t = elim (cell_from s (point a) (point b) (point c) (point d) t) [
  | inl F ↦ full_above s p k j o a b c d F
  | inr F ↦ full_below s p k j o a b c d F
]

-- ---- Open cells

-- the test of conflict, by the orientations of the mate and of p and the determinant
abbrev conflict : ℤ → ℤ → ℤ → Bool
conflict m q l =
    ((lt_z (pos 0) m && lt_z q (pos 0)) || (lt_z m (pos 0) && lt_z (pos 0) q))
    || (is_zero q && not ((lt_z (pos 0) m && lt_z (pos 0) l) || (lt_z m (pos 0) && lt_z l (pos 0))))

-- beyond the plane: in conflict
beyond_above : (m q l : ℤ) → pos 0 <ℤ m → q <ℤ pos 0 → conflict m q l ≡ true
beyond_above m q l hm hq = grind (arith, ints)

-- the mirror
beyond_below : (m q l : ℤ) → m <ℤ pos 0 → pos 0 <ℤ q → conflict m q l ≡ true
beyond_below m q l hm hq = grind (arith, ints)

-- on the side of the mate: not in conflict
before_above : (m q l : ℤ) → pos 0 <ℤ m → pos 0 <ℤ q → conflict m q l ≡ false
before_above m q l hm hq = grind (arith, ints)

-- the mirror
before_below : (m q l : ℤ) → m <ℤ pos 0 → q <ℤ pos 0 → conflict m q l ≡ false
before_below m q l hm hq = grind (arith, ints)

-- in the plane and outside: not in conflict
outside_plane_above : (m q l : ℤ) → pos 0 <ℤ m → q ≡ pos 0 → pos 0 <ℤ l → conflict m q l ≡ false
outside_plane_above m q l hm hq hl = grind (arith, ints)

-- the mirror
outside_plane_below : (m q l : ℤ) → m <ℤ pos 0 → q ≡ pos 0 → l <ℤ pos 0 → conflict m q l ≡ false
outside_plane_below m q l hm hq hl = grind (arith, ints)

-- in the plane and inside: in conflict
inside_plane_above : (m q l : ℤ) → pos 0 <ℤ m → q ≡ pos 0 → l ≤ℤ pos 0 → conflict m q l ≡ true
inside_plane_above m q l hm hq hl = grind (arith, ints)

-- the mirror
inside_plane_below : (m q l : ℤ) → m <ℤ pos 0 → q ≡ pos 0 → pos 0 ≤ℤ l → conflict m q l ≡ true
inside_plane_below m q l hm hq hl = grind (arith, ints)

module _ (s : List ℕ) (p : ℕ) (k : AreKeys s) (j : IsKey p) (o : IsIn p s → ⊥) where
  -- an Open cell of the set with p, seen from a mate of the set: p is above its plane, or in it and strictly outside
  kept_open : (a b c m : ℕ) → IsIn a s → IsIn b s → IsIn c s → IsIn m s → pos 0 <ℤ orientation a b c m →
      cells.Open height (with_point p s) a b c → orientation a b c p ≡ pos 0 → pos 0 <ℤ lifted height a b c m p
  kept_open a b c m ma mb mc mm l G z =
      positive (lifted height a b c m p) (open_ties G m p (in_with_old p m s mm) (in_with_new p s) l z)
      (λ e. o (of_four (λ x. IsIn x s) ((no_ties (with_point p s) (with_keys s p k j)).one_of a b c m p
      (in_with_old p a s ma) (in_with_old p b s mb) (in_with_old p c s mc) (in_with_old p m s mm) (in_with_new p s)
      (not_zero (orientation a b c m) l) e) ma mb mc mm))

  -- an Open cell that p is outside of stays
  stays_open : (a b c m : ℕ) → cells.Open height s a b c → pos 0 <ℤ orientation a b c m → IsOutside height a b c m p →
      cells.Open height (with_point p s) a b c
  stays_open a b c m F l i = open_same (to_with s p) (from_with s p) (open_stays F m l i)

  -- three points in the order in which the set is above them
  open_above : (a b c m : ℕ) → cells.Open height s a b c → IsIn m s → pos 0 <ℤ orientation a b c m →
      is_open_cell (with_point p s) a b c ≡ not (is_open_conflict (a ∷ b ∷ c ∷ []) m p)
  open_above a b c m F mm l =
      same_test (is_open_cell (with_point p s) a b c) (not (is_open_conflict (a ∷ b ∷ c ∷ []) m p))
      (λ t. not_true (is_open_conflict (a ∷ b ∷ c ∷ []) m p) (elim
      (cell_from (with_point p s) (point a) (point b) (point c) far t) [
        | inl G ↦ absurd (open_under _ (in_with_old p m s mm) l G)
        | inr G ↦ passes G
      ]))
      (λ t. cell_true (with_point p s) (with_keys s p k j) (point a) (point b) (point c) far
      (inr (stays_open a b c m F l (outside (not_from (is_open_conflict (a ∷ b ∷ c ∷ []) m p) t)))))
    where
      -- a cell of the set with p is not in conflict
      passes : cells.Open height (with_point p s) a b c → is_open_conflict (a ∷ b ∷ c ∷ []) m p ≡ false
      passes G = elim (sign (orientation a b c p)) [
        | below q ↦ absurd (clash (orientation a b c p) q (open_bounds G p (in_with_new p s)))
        | at_zero q ↦ outside_plane_above (orientation a b c m) (orientation a b c p) (out a b c m p) l q
            (subst (λ z. pos 0 <ℤ z) (sym (out_is a b c m p)) (kept_open a b c m (open_a F) (open_b F) (open_c F) mm l G
            q))
        | above q ↦ before_above (orientation a b c m) (orientation a b c p) (out a b c m p) l q
      ]

      -- and where it is not in conflict p is outside
      outside : is_open_conflict (a ∷ b ∷ c ∷ []) m p ≡ false → IsOutside height a b c m p
      outside t = elim (sign (orientation a b c p)) [
        | below q ↦ absurd (not_both (is_open_conflict (a ∷ b ∷ c ∷ []) m p)
            (beyond_above (orientation a b c m) (orientation a b c p) (out a b c m p) l q) t)
        | at_zero q ↦ record {
          side = zero_weak (orientation a b c p) q;
          tie = λ z. plane q (sign (lifted height a b c m p));
        }
        | above q ↦ record {
          side = weak (orientation a b c p) q;
          tie = λ z. absurd (not_zero (orientation a b c p) q z);
        }
      ]
        where
          -- in the plane
          plane : orientation a b c p ≡ pos 0 → Sign (lifted height a b c m p) → pos 0 ≤ℤ lifted height a b c m p
          plane q (below r) =
              absurd (not_both (is_open_conflict (a ∷ b ∷ c ∷ []) m p)
              (inside_plane_above (orientation a b c m) (orientation a b c p) (out a b c m p) l q
              (low_most (out a b c m p) (subst (λ z. z <ℤ pos 0) (sym (out_is a b c m p)) r))) t)
          plane q (at_zero r) = zero_weak (lifted height a b c m p) r
          plane q (above r) = weak (lifted height a b c m p) r

  -- three points in the other order
  open_below : (a b c m : ℕ) → cells.Open height s a c b → IsIn m s → pos 0 <ℤ orientation a c b m →
      is_open_cell (with_point p s) a b c ≡ not (is_open_conflict (a ∷ b ∷ c ∷ []) m p)
  open_below a b c m F mm l =
      let low : orientation a b c m <ℤ pos 0 =
      low_of (orientation a b c m) (orientation a c b m) l (swap_middle a b c m) in
      same_test (is_open_cell (with_point p s) a b c) (not (is_open_conflict (a ∷ b ∷ c ∷ []) m p))
      (λ t. not_true (is_open_conflict (a ∷ b ∷ c ∷ []) m p) (elim
      (cell_from (with_point p s) (point a) (point b) (point c) far t) [
        | inr G ↦ absurd (open_under _ (in_with_old p m s mm) l G)
        | inl G ↦ passes low G
      ]))
      (λ t. cell_true (with_point p s) (with_keys s p k j) (point a) (point b) (point c) far
      (inl (stays_open a c b m F l (outside low (not_from (is_open_conflict (a ∷ b ∷ c ∷ []) m p) t)))))
    where
      -- a cell of the set with p is not in conflict
      passes : orientation a b c m <ℤ pos 0 → cells.Open height (with_point p s) a c b →
          is_open_conflict (a ∷ b ∷ c ∷ []) m p ≡ false
      passes low G = elim (sign (orientation a c b p)) [
        | below q ↦ absurd (clash (orientation a c b p) q (open_bounds G p (in_with_new p s)))
        | at_zero q ↦ outside_plane_below (orientation a b c m) (orientation a b c p) (out a b c m p) low
            (negative_of_zero (orientation a c b p) (orientation a b c p) (swap_middle a c b p) q)
            (subst (λ z. z <ℤ pos 0) (sym (out_is a b c m p)) (low_of (lifted height a b c m p)
            (lifted height a c b m p) (kept_open a c b m (open_a F) (open_b F) (open_c F) mm l G q)
            (lifted_swap23 height a b c m p)))
        | above q ↦ before_below (orientation a b c m) (orientation a b c p) (out a b c m p) low
            (low_of (orientation a b c p) (orientation a c b p) q (swap_middle a b c p))
      ]

      -- and where it is not in conflict p is outside
      outside : orientation a b c m <ℤ pos 0 → is_open_conflict (a ∷ b ∷ c ∷ []) m p ≡ false →
          IsOutside height a c b m p
      outside low t = elim (sign (orientation a c b p)) [
        | below q ↦ absurd (not_both (is_open_conflict (a ∷ b ∷ c ∷ []) m p)
            (beyond_below (orientation a b c m) (orientation a b c p) (out a b c m p) low
            (high_of (orientation a c b p) (orientation a b c p) q (swap_middle a c b p))) t)
        | at_zero q ↦ record {
          side = zero_weak (orientation a c b p) q;
          tie = λ z. plane q (sign (lifted height a c b m p));
        }
        | above q ↦ record {
          side = weak (orientation a c b p) q;
          tie = λ z. absurd (not_zero (orientation a c b p) q z);
        }
      ]
        where
          -- in the plane
          plane : orientation a c b p ≡ pos 0 → Sign (lifted height a c b m p) → pos 0 ≤ℤ lifted height a c b m p
          plane q (below r) =
              absurd (not_both (is_open_conflict (a ∷ b ∷ c ∷ []) m p)
              (inside_plane_below (orientation a b c m) (orientation a b c p) (out a b c m p) low
              (negative_of_zero (orientation a c b p) (orientation a b c p) (swap_middle a c b p) q)
              (weak (out a b c m p) (subst (λ z. pos 0 <ℤ z) (sym (out_is a b c m p))
              (high_of (lifted height a c b m p) (lifted height a b c m p) r (lifted_swap23 height a c b m p))))) t)
          plane q (at_zero r) = zero_weak (lifted height a c b m p) r
          plane q (above r) = weak (lifted height a c b m p) r

-- an Open cell is kept where it is not in conflict
pub open_is_kept : OpenIsKept
open_is_kept s a b c m p k j o t mm n = elim (cell_from s (point a) (point b) (point c) far t) [
  | inl F ↦ open_below s p k j o a b c m F mm (positive (orientation a c b m) (open_bounds F m mm)
      (λ z. not_zero_from (orientation a b c m) n (negative_of_zero (orientation a c b m) (orientation a b c m)
      (swap_middle a c b m) z)))
  | inr F ↦ open_above s p k j o a b c m F mm (positive (orientation a b c m) (open_bounds F m mm)
      (not_zero_from (orientation a b c m) n))
]
