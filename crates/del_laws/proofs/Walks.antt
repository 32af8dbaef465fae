-- Crossing a facet leads nearer to a point; the closest cell of a set; every point is in a Full cell, where there is
-- one.
--
use Rattle.std.specs.Prelude.{ℕ, ℤ, pos, ◌-ℤ◌, ◌*ℤ◌, neg_ℤ, ◌≡◌, ◌≤ℤ◌, ◌<ℤ◌, List, []}
use Rattle.std.proofs.Common.{arith, inl, inr, subst, ◌∙◌, ap}
use Rattle.std.proofs.lemmas.Int.{ints}
use Rattle.whole_ring.proofs.Cited.{mul_neg_pos, mul_pos}
use Rattle.list_laws.proofs.Cited.{clash, not_back, not_below, not_zero, positive}
use Rattle.point_order.specs.Orientation.{orientation}
use Rattle.point_order.specs.Heights.{lifted}
use Rattle.point_order.specs.Sets.{IsIn}
use Rattle.point_order.proofs.Cited.{swap_middle}
use Rattle.del_laws.specs.Cells.{Full, NoTies, IsConvex, OneOf, HasFullAt}
use Rattle.del_laws.proofs.Identities.{lifted_at_a, lifted_at_b, lifted_at_c, lifted_at_d, crossing_of}
use Rattle.del_laws.proofs.Lists.{of_four}
use Rattle.del_laws.proofs.CellFacts.{full_a, full_b, full_c, full_d, full_turned, full_apart, full_empty, full_against}
use Rattle.del_laws.proofs.CellFacts.{open_bounds}
use Rattle.del_laws.proofs.Orders.{full_left, full_right}
use Rattle.del_laws.proofs.Across.{across_full}
use Rattle.del_laws.proofs.Sides.{fourth}
use Rattle.del_laws.proofs.Regions.{IsSetOf, Closest, closest_left, closest_right, closest}
use Rattle.del_laws.proofs.Decide.{decide_full}

-- another point of the set is strictly outside
pub strict : {h : ℕ → ℕ} {s : List ℕ} {a b c d : ℕ} → NoTies h s → Full h s a b c d → (e : ℕ) → IsIn e s →
    ¬ (OneOf e a b c d) → pos 0 <ℤ lifted h a b c d e
strict {h} {s} {a} {b} {c} {d} n F e m k =
    positive (lifted h a b c d e) (full_empty F e m) (λ z. k (n.one_of a b c d e (full_a F) (full_b F) (full_c F)
    (full_d F) m (not_zero (orientation a b c d) (full_turned F)) z))

-- a vertex lies on its cell's sphere
pub on : (h : ℕ → ℕ) (a b c d e : ℕ) → OneOf e a b c d → lifted h a b c d e ≡ pos 0
on h a b c d e m =
    of_four (λ x. lifted h a b c d x ≡ pos 0) m (lifted_at_a h a b c d) (lifted_at_b h a b c d) (lifted_at_c h a b c d)
    (lifted_at_d h a b c d)

-- the two cells on a triple: the fourth point of the one is strictly outside the other
pub beyond : {h : ℕ → ℕ} {s : List ℕ} {a b c d f : ℕ} → NoTies h s → Full h s a b c d → Full h s a c b f →
    pos 0 <ℤ lifted h a b c d f
beyond {h} {s} {a} {b} {c} {d} {f} n F G = strict n F f (full_d G) (λ m. same (fourth a b c d f m off))
  where
    -- f is off the plane
    off : orientation a b c f ≡ pos 0 → ⊥
    off e = full_apart G (swap_middle a b c f ∙ ap neg_ℤ e)

    -- and not on the side of d
    same : f ≡ d → ⊥
    same p = full_against F (subst (λ x. Full h s a c b x) p G)

-- the sign of a difference that is a product
below_from : (p q w o : ℤ) → p -ℤ q ≡ w *ℤ o → w <ℤ pos 0 → pos 0 <ℤ o → p <ℤ q
below_from p q w o e h k = omega (arith, ints, mul_neg_pos w o h k)

-- the same, above
above_from : (p q w o : ℤ) → p -ℤ q ≡ w *ℤ o → pos 0 <ℤ w → pos 0 <ℤ o → q <ℤ p
above_from p q w o e h k = omega (arith, ints, mul_pos w o h k)

-- across a facet that has e behind it the cell is closer to e
pub nearer : {h : ℕ → ℕ} {s : List ℕ} {a b c d f : ℕ} → NoTies h s → Full h s a b c d → Full h s a c b f → (e : ℕ) →
    orientation a b c e <ℤ pos 0 → (lifted h a c b f e *ℤ orientation a b c d)
    <ℤ (lifted h a b c d e *ℤ orientation a c b f)
nearer {h} {s} {a} {b} {c} {d} {f} n F G e l =
    below_from (lifted h a c b f e *ℤ orientation a b c d) (lifted h a b c d e *ℤ orientation a c b f)
    (orientation a b c e) (lifted h a b c d f) (crossing_of h a b c d f e) l (beyond n F G)

-- across a facet that has e before it the cell is farther from e
pub farther : {h : ℕ → ℕ} {s : List ℕ} {a b c d f : ℕ} → NoTies h s → Full h s a b c d → Full h s a c b f → (e : ℕ) →
    pos 0 <ℤ orientation a b c e → (lifted h a b c d e *ℤ orientation a c b f)
    <ℤ (lifted h a c b f e *ℤ orientation a b c d)
farther {h} {s} {a} {b} {c} {d} {f} n F G e l =
    above_from (lifted h a c b f e *ℤ orientation a b c d) (lifted h a b c d e *ℤ orientation a c b f)
    (orientation a b c e) (lifted h a b c d f) (crossing_of h a b c d f e) l (beyond n F G)

-- a Full cell across a facet, and not in the set
pub record Left (h : ℕ → ℕ) (s : List ℕ) (q : ℕ → ℕ → ℕ → ℕ → Type 0) (a b c : ℕ) : Type 0 where
  pub f : ℕ
  pub full : Full h s a c b f
  pub outside : ¬ (q a c b f)

-- from the closest cell of a set, the cell across a facet that has e behind it is Full and not in the set
pub descent : {h : ℕ → ℕ} {s : List ℕ} {q : ℕ → ℕ → ℕ → ℕ → Type 0} {e a b c d : ℕ} → NoTies h s → IsSetOf h s q →
    Closest h q e a b c d → IsIn e s → orientation a b c e <ℤ pos 0 → Left h s q a b c
descent {h} {s} {q} {e} {a} {b} {c} {d} n g t m l = elim (across_full F) [
  | inl r ↦ record {
    f = r.0;
    full = r.1;
    outside = λ i. not_back (lifted h a b c d e *ℤ orientation a c b r.0)
        (lifted h a c b r.0 e *ℤ orientation a b c d) (t.least a c b r.0 i) (nearer n F r.1 e l);
  }
  | inr o ↦ absurd (clash (orientation a b c e) l (open_bounds o e m))
]
  where
    -- the closest cell
    F : Full h s a b c d
    F = g.full a b c d t.at

-- a set that is closed across the facets that leave the points of k in place
pub record IsClosed (h : ℕ → ℕ) (s : List ℕ) (q : ℕ → ℕ → ℕ → ℕ → Type 0) (k : List ℕ) : Type 0 where
  pub across : (a b c d f : ℕ) → q a b c d → ¬ (IsIn d k) → Full h s a c b f → q a c b f

-- so at the closest cell of a closed set the weights of all other vertices are not below 0
pub weight : {h : ℕ → ℕ} {s : List ℕ} {q : ℕ → ℕ → ℕ → ℕ → Type 0} {k : List ℕ} {e a b c d : ℕ} → NoTies h s →
    IsSetOf h s q → IsClosed h s q k → Closest h q e a b c d → IsIn e s → ¬ (IsIn d k) → pos 0 ≤ℤ orientation a b c e
weight {h} {s} {q} {k} {e} {a} {b} {c} {d} n g z t m o =
    not_below (orientation a b c e) (λ l. (let r = descent n g t m l in r.outside (z.across a b c d r.f t.at o r.full)))

-- all Full cells as a set
pub all_full : (h : ℕ → ℕ) (s : List ℕ) → IsSetOf h s (λ a b c d. Full h s a b c d)
all_full h s = record {
  decide = λ a b c d. decide_full h s a b c d;
  left = λ a b c d f. full_left f;
  right = λ a b c d f. full_right f;
  full = λ a b c d f. f;
}

-- which is closed across every facet
pub all_closed : (h : ℕ → ℕ) (s : List ℕ) → IsClosed h s (λ a b c d. Full h s a b c d) []
all_closed h s = record { across = λ a b c d f t o F. F }

-- every point of the set is a vertex of a Full cell
pub every_point : {h : ℕ → ℕ} {s : List ℕ} {a b c d : ℕ} → NoTies h s → IsConvex h s → Full h s a b c d → (e : ℕ) →
    IsIn e s → HasFullAt h s e
every_point {h} {s} {a} {b} {c} {d} n v F e m =
    let q = closest (all_full h s) e a b c d F in
    let g = all_full h s in
    let t = q.1 in
    record {
      f = q.0;
      full = t.at;
      has =
          v.one_of q.0.a q.0.b q.0.c q.0.d e (full_a t.at) (full_b t.at) (full_c t.at) (full_d t.at) m
          (full_turned t.at)
          (weight n g (all_closed h s) (closest_right g (closest_right g (closest_left g t))) m (λ x. x))
          (weight n g (all_closed h s) (closest_right g t) m (λ x. x))
          (weight n g (all_closed h s) (closest_right g (closest_right g t)) m (λ x. x))
          (weight n g (all_closed h s) t m (λ x. x))
          (full_empty t.at e m);
    }
