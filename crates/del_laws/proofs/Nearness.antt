-- The order of nearness to a point, and that a walk over cells that comes nearer at each step ends.
--
use Rattle.std.specs.Prelude.{ℕ, suc, ℤ, pos, ◌*ℤ◌, ◌≡◌, ◌≤ℤ◌, ◌<ℤ◌, ◌<◌, true, false, List, ◌∷◌, count_by}
use Rattle.std.proofs.Common.{arith, refl, inl, inr}
use Rattle.std.proofs.lemmas.Int.{ints}
use Rattle.std.specs.Int.Signed.{lt_z}
use Rattle.list_laws.specs.Lists.{IsIn}
use Rattle.list_laws.proofs.Cited.{below_or_not, count_less, less_from, less_true, ratio_chain_less}
use Rattle.point_order.specs.Orientation.{orientation}
use Rattle.point_order.specs.Heights.{lifted}
use Rattle.del_laws.specs.Cells.{Full, NoTies, IsConvex, OneOf, IsBehind, Crossed, full, in_conflict}
use Rattle.del_laws.specs.Walks.{Rank, first, ratio, last, is_before}
use Rattle.del_laws.proofs.CellFacts.{full_a, full_b, full_c, full_d, full_turned}
use Rattle.del_laws.proofs.Orders.{full_left, full_right}
use Rattle.del_laws.proofs.Across.{across_full}
use Rattle.del_laws.proofs.Walks.{nearer}

-- ---- the order

-- no rank is before itself
pub before_not : (q : Rank) → is_before q q ≡ false
before_not first = refl
before_not (ratio n d) = same (n *ℤ pos (suc d))
  where
    -- no number is less than itself
    same : (a : ℤ) → lt_z a a ≡ false
    same a = grind (arith, ints)
before_not last = refl

-- a denominator is positive
above_zero : (d : ℕ) → pos 0 <ℤ pos (suc d)
above_zero d = omega (arith, ints)

-- what is before what is before a rank is before it
pub before_chain : (q r t : Rank) → is_before q r ≡ true → is_before r t ≡ true → is_before q t ≡ true
before_chain first first t a b = cc
before_chain first (ratio m e) first a b = cc
before_chain first (ratio m e) (ratio i j) a b = refl
before_chain first (ratio m e) last a b = refl
before_chain first last t a b = cc
before_chain (ratio n d) first t a b = cc
before_chain (ratio n d) (ratio m e) first a b = cc
before_chain (ratio n d) (ratio m e) (ratio i j) a b =
    less_true (n *ℤ pos (suc j)) (i *ℤ pos (suc d))
    (ratio_chain_less n (pos (suc d)) m (pos (suc e)) i (pos (suc j)) (above_zero d) (above_zero e) (above_zero j)
    (less_from (n *ℤ pos (suc e)) (m *ℤ pos (suc d)) a) (less_from (m *ℤ pos (suc j)) (i *ℤ pos (suc e)) b))
before_chain (ratio n d) (ratio m e) last a b = refl
before_chain (ratio n d) last t a b = cc
before_chain last r t a b = cc

-- of the cells of a list, fewer are nearer than the nearer of two
pub fewer_nearer : {X : Type 0} (rank : X → Rank) (x y : X) → is_before (rank y) (rank x) ≡ true → (xs : List X) →
    IsIn y xs → count_by (λ z. is_before (rank z) (rank y)) xs < count_by (λ z. is_before (rank z) (rank x)) xs
fewer_nearer rank x y l xs m =
    count_less (λ z. is_before (rank z) (rank y)) (λ z. is_before (rank z) (rank x)) xs
    (λ z i q. before_chain (rank z) (rank y) (rank x) q l)
    y m (before_not (rank y)) l

-- ---- a step

-- crossing such a facet
pub cross : {h : ℕ → ℕ} {s : List ℕ} {a b c d : ℕ} → NoTies h s → Full h s a b c d → (p : ℕ) →
    orientation a b c p <ℤ pos 0 → Crossed h s a b c d p
cross n F p l = elim (across_full F) [ inl r ↦ full r.0 r.1 (nearer n F r.1 p l) | inr o ↦ in_conflict o l ]

-- a Full cell not in conflict with p has p behind one of its facets
pub some_behind : {h : ℕ → ℕ} {s : List ℕ} {a b c d : ℕ} (p : ℕ) → IsConvex h (p ∷ s) → Full h s a b c d →
    pos 0 ≤ℤ lifted h a b c d p → ¬ (OneOf p a b c d) → IsBehind h s p
some_behind {h} {s} {a} {b} {c} {d} p v F k o = elim (below_or_not (orientation b d c p)) [
  | inl l ↦ record { a = b; b = d; c = c; d = a; full = full_right (full_right (full_left F)); low = l }
  | inr ka ↦ elim (below_or_not (orientation a c d p)) [
    | inl l ↦ record { a = a; b = c; c = d; d = b; full = full_right F; low = l }
    | inr kb ↦ elim (below_or_not (orientation a d b p)) [
      | inl l ↦ record { a = a; b = d; c = b; d = c; full = full_right (full_right F); low = l }
      | inr kc ↦ elim (below_or_not (orientation a b c p)) [
        | inl l ↦ record { a = a; b = b; c = c; d = d; full = F; low = l }
        | inr kd ↦ absurd (o (v.one_of a b c d p (inr (full_a F)) (inr (full_b F)) (inr (full_c F)) (inr (full_d F))
            (inl refl) (full_turned F) ka kb kc kd k))
      ]
    ]
  ]
]
