-- From every point some Open cell looks away, and a solid set has cells.
use Rattle.std.specs.Prelude.{ℕ, ℤ, pos, ◌*ℤ◌, neg_ℤ, ◌≤ℤ◌, ◌<ℤ◌, List, [], ◌∷◌, ◌++◌}
use Rattle.std.proofs.Common.{arith, refl, inl, inr}
use Rattle.std.proofs.lemmas.Int.{ints}
use Rattle.whole_ring.specs.Signs.{below, at_zero, above}
use Rattle.whole_ring.proofs.Cited.{neg_mul, sign}
use Rattle.list_laws.proofs.Cited.{from_append, in_left, not_back, not_zero, one_above, turned_below, weak, zero_weak}
use Rattle.point_order.specs.Orientation.{orientation}
use Rattle.point_order.specs.Heights.{lifted}
use Rattle.point_order.specs.Sets.{IsIn}
use Rattle.point_order.proofs.Cited.{swap_middle}
use Rattle.del_laws.specs.Cells.{Full, Open, NoTies, Four, IsSolid, IsSubset, HasFull, Faces}
use Rattle.del_laws.proofs.Identities.{orientation_bcad, orientation_acdb, lifted_bcad, lifted_acdb, weights_of}
use Rattle.del_laws.proofs.Lists.{of_four}
use Rattle.del_laws.proofs.CellFacts.{full_cell, full_turned, full_same}
use Rattle.del_laws.proofs.Across.{across_full, across_open}
use Rattle.del_laws.proofs.Regions.{choose}
use Rattle.del_laws.proofs.Walks.{on, farther, all_full}
use Rattle.del_laws.proofs.Conflict.{open_stays}

-- a part of a set has no ties where the set has none
pub fewer_ties : {h : ℕ → ℕ} {t s : List ℕ} → IsSubset t s → NoTies h s → NoTies h t
fewer_ties u n = record {
  one_of = λ a b c d e ma mb mc md me. n.one_of a b c d e (u.inside a ma) (u.inside b mb)
      (u.inside c mc) (u.inside d md) (u.inside e me);
}

-- ---- away from a point

-- no Full cell is farther from e
record Farthest (h : ℕ → ℕ) (s : List ℕ) (e a b c d : ℕ) : Type 0 where
  at : Full h s a b c d
  most : (k l m n : ℕ) → Full h s k l m n → (lifted h k l m n e *ℤ orientation a b c d)
      ≤ℤ (lifted h a b c d e *ℤ orientation k l m n)

-- the same with the first three points turned
farthest_left : {h : ℕ → ℕ} {s : List ℕ} {e a b c d : ℕ} → Farthest h s e a b c d → Farthest h s e b c a d
farthest_left {h} {s} {e} {a} {b} {c} {d} f = record {
  at = (all_full h s).left a b c d f.at;
  most = λ k l m n t. rw (lifted_bcad h a b c d e, orientation_bcad a b c d) (f.most k l m n t);
}

-- with the last three turned
farthest_right : {h : ℕ → ℕ} {s : List ℕ} {e a b c d : ℕ} → Farthest h s e a b c d → Farthest h s e a c d b
farthest_right {h} {s} {e} {a} {b} {c} {d} f = record {
  at = (all_full h s).right a b c d f.at;
  most = λ k l m n t. rw (lifted_acdb h a b c d e, orientation_acdb a b c d) (f.most k l m n t);
}

-- an order of opposites
neg_order : (a b c d : ℤ) → (neg_ℤ a *ℤ b) ≤ℤ (neg_ℤ c *ℤ d) → (c *ℤ d) ≤ℤ (a *ℤ b)
neg_order a b c d l = omega (arith, ints, neg_mul a b, neg_mul c d)

-- there is a farthest cell
farthest : {h : ℕ → ℕ} {s : List ℕ} (e a b c d : ℕ) → Full h s a b c d → (f : Four) × Farthest h s e f.a f.b f.c f.d
farthest {h} {s} e a b c d t =
    let v = choose (all_full h s) (λ k l m n. neg_ℤ (lifted h k l m n e)) a b c d t in (
      v.f,
      record {
        at = v.at;
        most = λ k l m n u. neg_order (lifted h v.f.a v.f.b v.f.c v.f.d e) (orientation k l m n)
            (lifted h k l m n e) (orientation v.f.a v.f.b v.f.c v.f.d) (v.least k l m n u);
      },
    )

-- where a weight of p at the farthest cell is positive, the cell across is Open
at_hull : {h : ℕ → ℕ} {s : List ℕ} {p a b c d : ℕ} → NoTies h s → Farthest h s p a b c d →
    pos 0 <ℤ orientation a b c p → Faces h s p
at_hull {h} {s} {p} {a} {b} {c} {d} n t w = elim (across_full t.at) [
  | inr o ↦ record { a = a; b = b; c = c; open_cell = o; inside = w }
  | inl r ↦ absurd (not_back (lifted h a c b r.0 p *ℤ orientation a b c d) (lifted h a b c d p *ℤ orientation a c b r.0)
      (t.most a c b r.0 r.1) (farther n t.at r.1 p w))
]

-- and some weight is positive
away_from : {h : ℕ → ℕ} {s : List ℕ} {p a b c d : ℕ} → NoTies h s → Farthest h s p a b c d → Faces h s p
away_from {h} {s} {p} {a} {b} {c} {d} n t =
    elim (one_above (orientation b d c p) (orientation a c d p) (orientation a d b p) (orientation a b c p)
    (rw (weights_of a b c d p) (full_turned t.at))) [
      | inl w ↦ at_hull n (farthest_right (farthest_right (farthest_left t))) w
      | inr x ↦ elim x [
        | inl w ↦ at_hull n (farthest_right t) w
        | inr y ↦ elim y [ inl w ↦ at_hull n (farthest_right (farthest_right t)) w | inr w ↦ at_hull n t w ]
      ]
    ]

-- away from any point, in the set or not, some Open cell looks
pub away : {h : ℕ → ℕ} {s : List ℕ} {a b c d : ℕ} → NoTies h s → Full h s a b c d → (p : ℕ) → Faces h s p
away {h} {s} {a} {b} {c} {d} n F p = away_from n (farthest p a b c d F).1

-- ---- existence

-- that Open cell stays when p is added, with p as a mate
with_point : {h : ℕ → ℕ} {s : List ℕ} {p : ℕ} (t : Faces h s p) → Open h (p ∷ s) t.a t.b t.c
with_point {h} {s} {p} t =
    open_stays t.open_cell p t.inside (record {
      side = weak (orientation t.a t.b t.c p) t.inside;
      tie = λ z. absurd (not_zero (orientation t.a t.b t.c p) t.inside z);
    })

-- so a set with one more point has a Full cell
one_more : {h : ℕ → ℕ} {s : List ℕ} (p : ℕ) → NoTies h s → HasFull h s → HasFull h (p ∷ s)
one_more {h} {s} p n F =
    let t = away n F.full p in
    let d = across_open (with_point t) in
    record { f = record { a = t.a; b = t.b; c = t.c; d = d.0 }; full = d.1 }

-- four points by themselves
four_points : (h : ℕ → ℕ) (a b c d : ℕ) → pos 0 <ℤ orientation a b c d → HasFull h (a ∷ b ∷ c ∷ d ∷ [])
four_points h a b c d o = record {
  f = record { a = a; b = b; c = c; d = d };
  full = full_cell (inl refl) (inr (inl refl)) (inr (inr (inl refl))) (inr (inr (inr (inl refl)))) o
      (λ e m. zero_weak (lifted h a b c d e) (on h a b c d e m));
}

-- and more and more points
many_more : {h : ℕ → ℕ} (s : List ℕ) (t : List ℕ) → NoTies h (s ++ t) → HasFull h t → HasFull h (s ++ t)
many_more [] t n F = F
many_more (p ∷ s) t n F =
    let k = fewer_ties (record { inside = λ e m. inr m }) n in
    one_more p k (many_more s t k F)

-- from four independent points of the set
exists_from : {h : ℕ → ℕ} {s : List ℕ} (a b c d : ℕ) → NoTies h s → IsIn a s → IsIn b s → IsIn c s → IsIn d s →
    pos 0 <ℤ orientation a b c d → HasFull h s
exists_from {h} {s} a b c d n ma mb mc md o =
    let G = many_more s (a ∷ b ∷ c ∷ d ∷ []) (fewer_ties (record { inside = back }) n) (four_points h a b c d o) in
    record { f = G.f; full = full_same back (λ e m. in_left e s (a ∷ b ∷ c ∷ d ∷ []) m) G.full }
  where
    -- the four are points of the set
    back : (e : ℕ) → IsIn e (s ++ (a ∷ b ∷ c ∷ d ∷ [])) → IsIn e s
    back e m = elim (from_append e s (a ∷ b ∷ c ∷ d ∷ []) m) [
      | inl i ↦ i
      | inr i ↦ of_four (λ x. IsIn x s) i ma mb mc md
    ]

-- a solid set has a Full cell
pub exists_full : {h : ℕ → ℕ} {s : List ℕ} → NoTies h s → IsSolid s → HasFull h s
exists_full {h} {s} n i = elim (sign (orientation i.f.a i.f.b i.f.c i.f.d)) [
  | below l ↦ exists_from i.f.a i.f.c i.f.b i.f.d n i.has_a i.has_c i.has_b i.has_d
      (rw swap_middle (turned_below (orientation i.f.a i.f.b i.f.c i.f.d) l))
  | at_zero z ↦ absurd (i.apart z)
  | above l ↦ exists_from i.f.a i.f.b i.f.c i.f.d n i.has_a i.has_b i.has_c i.has_d l
]
