-- A cell of a set is a cell of each smaller solid set that has its points; and of each set between it and two sets of
-- which it is a cell.
--
use Rattle.std.specs.Prelude.{ℕ, List, ◌⊎◌}
use Rattle.std.proofs.Common.{inl, inr}
use Rattle.point_order.specs.Sets.{IsIn}
use Rattle.del_laws.specs.Cells.{Full, Open, Vertex, point, far, Held, IsSolid, IsSubset, IsSymmetric, Inside}
use Rattle.del_laws.proofs.CellFacts.{full_cell, full_a, full_b, full_c, full_d, full_turned, full_empty, full_against}
use Rattle.del_laws.proofs.CellFacts.{open_a, open_b, open_c, open_bounds, open_ties, open_under, open_by_mate}
use Rattle.del_laws.proofs.Planes.{mate_within}
use Rattle.del_laws.proofs.Parts.{by_triples, held_even, and_even}

-- a Full cell of a smaller set
pub full_smaller : {h : ℕ → ℕ} {t s : List ℕ} {a b c d : ℕ} → IsSubset t s → IsIn a t → IsIn b t → IsIn c t → IsIn d t →
    Full h s a b c d → Full h t a b c d
full_smaller u ma mb mc md F = full_cell ma mb mc md (full_turned F) (λ e m. full_empty F e (u.inside e m))

-- an Open cell of a smaller solid set
pub open_smaller : {h : ℕ → ℕ} {t s : List ℕ} {a b c : ℕ} → IsSubset t s → IsSolid t → IsIn a t → IsIn b t → IsIn c t →
    Open h s a b c → Open h t a b c
open_smaller {h} {t} {s} {a} {b} {c} u i ma mb mc F =
    let f = mate_within u i F in
    open_by_mate ma mb mc f.0 f.1 f.2 (λ e m. open_bounds F e (u.inside e m))
    (λ e m z. open_ties F f.0 e (u.inside f.0 f.1) (u.inside e m) f.2 z)

-- all four vertices are of the set
pub record AllInside (t : List ℕ) (w x y z : Vertex) : Type 0 where
  pub first : Inside t w
  pub second : Inside t x
  pub third : Inside t y
  pub fourth : Inside t z

-- in any order
pub all_inside_even : (t : List ℕ) → IsSymmetric (λ w x y z. AllInside t w x y z)
all_inside_even t = record {
  swap12 = λ w x y z m. record { first = m.second; second = m.first; third = m.third; fourth = m.fourth };
  swap23 = λ w x y z m. record { first = m.first; second = m.third; third = m.second; fourth = m.fourth };
  swap34 = λ w x y z m. record { first = m.first; second = m.second; third = m.fourth; fourth = m.third };
}

-- a cell of a smaller solid set
pub smaller : (h : ℕ → ℕ) (t s : List ℕ) → IsSubset t s → IsSolid t → (w x y z : Vertex) → Held h s w x y z →
    AllInside t w x y z → Held h t w x y z
smaller h t s u i w x y z F m =
    by_triples h s (λ w x y z. Held h s w x y z × AllInside t w x y z) (λ w x y z. Held h t w x y z)
    (and_even (held_even h s) (all_inside_even t)) (held_even h t) (λ w x y z k. k.0) triples w x y z (F, m)
  where
    -- of three points and a vertex
    triples : (a b c : ℕ) (z : Vertex) → Held h s (point a) (point b) (point c) z
        × AllInside t (point a) (point b) (point c) z → Held h t (point a) (point b) (point c) z
    triples a b c (point d) k = elim k.0 [
      | inl F ↦ inl (full_smaller u k.1.first k.1.second k.1.third k.1.fourth F)
      | inr F ↦ inr (full_smaller u k.1.first k.1.third k.1.second k.1.fourth F)
    ]
    triples a b c far k = elim k.0 [
      | inl F ↦ inl (open_smaller u i k.1.first k.1.third k.1.second F)
      | inr F ↦ inr (open_smaller u i k.1.first k.1.second k.1.third F)
    ]

-- the points of a cell are in the set
pub held_inside : (h : ℕ → ℕ) (s : List ℕ) (w x y z : Vertex) → Held h s w x y z → AllInside s w x y z
held_inside h s w x y z F =
    by_triples h s (λ w x y z. Held h s w x y z) (λ w x y z. AllInside s w x y z) (held_even h s) (all_inside_even s)
    (λ w x y z k. k) triples w x y z F
  where
    -- of three points and a vertex
    triples : (a b c : ℕ) (z : Vertex) → Held h s (point a) (point b) (point c) z →
        AllInside s (point a) (point b) (point c) z
    triples a b c (point d) k = elim k [
      | inl F ↦ record { first = full_a F; second = full_b F; third = full_c F; fourth = full_d F }
      | inr F ↦ record { first = full_a F; second = full_c F; third = full_b F; fourth = full_d F }
    ]
    triples a b c far k = elim k [
      | inl F ↦ record { first = open_a F; second = open_c F; third = open_b F; fourth = tt }
      | inr F ↦ record { first = open_a F; second = open_b F; third = open_c F; fourth = tt }
    ]

-- ---- two sets

-- Full in two sets, so in a set between them
full_union : {h : ℕ → ℕ} {s t u : List ℕ} {a b c d : ℕ} → IsSubset s u → ((e : ℕ) → IsIn e u → IsIn e s ⊎ IsIn e t) →
    Full h s a b c d → Full h t a b c d → Full h u a b c d
full_union k g F G =
    full_cell (k.inside _ (full_a F)) (k.inside _ (full_b F)) (k.inside _ (full_c F)) (k.inside _ (full_d F))
    (full_turned F)
    (λ e m. elim (g e m) [ inl i ↦ full_empty F e i | inr i ↦ full_empty G e i ])

-- Open in two sets that have a solid part in common
open_union : {h : ℕ → ℕ} {r s t u : List ℕ} {a b c : ℕ} → IsSolid r → IsSubset r s → IsSubset r t → IsSubset s u →
    ((e : ℕ) → IsIn e u → IsIn e s ⊎ IsIn e t) → Open h s a b c → Open h t a b c → Open h u a b c
open_union {h} {r} {s} {t} {u} {a} {b} {c} i p q k g F G =
    let f = mate_within p i F in
    open_by_mate (k.inside a (open_a F)) (k.inside b (open_b F)) (k.inside c (open_c F)) f.0
    (k.inside f.0 (p.inside f.0 f.1)) f.2
    (λ e m. elim (g e m) [ inl j ↦ open_bounds F e j | inr j ↦ open_bounds G e j ])
    (λ e m z. elim (g e m) [
      | inl j ↦ open_ties F f.0 e (p.inside f.0 f.1) j f.2 z
      | inr j ↦ open_ties G f.0 e (q.inside f.0 f.1) j f.2 z
    ])

-- no triple is Open in two orders of opposite sign
open_against : {h : ℕ → ℕ} {r s t : List ℕ} {a b c : ℕ} → IsSolid r → IsSubset r s → IsSubset r t → Open h s a b c →
    Open h t a c b → ⊥
open_against {h} {r} {s} {t} {a} {b} {c} i p q F G =
    let f = mate_within p i F in
    open_under _ (q.inside f.0 f.1) f.2 G

-- A cell of two sets that have a solid part in common is a cell of each set between the first and both together.
pub union : (h : ℕ → ℕ) (r s t u : List ℕ) → IsSolid r → IsSubset r s → IsSubset r t → IsSubset s u →
    ((e : ℕ) → IsIn e u → IsIn e s ⊎ IsIn e t) → (w x y z : Vertex) → Held h s w x y z → Held h t w x y z →
    Held h u w x y z
union h r s t u i p q k g w x y z F G =
    by_triples h s (λ w x y z. Held h s w x y z × Held h t w x y z) (λ w x y z. Held h u w x y z)
    (and_even (held_even h s) (held_even h t)) (held_even h u) (λ w x y z m. m.0) triples w x y z (F, G)
  where
    -- of three points and a vertex
    triples : (a b c : ℕ) (z : Vertex) → Held h s (point a) (point b) (point c) z
        × Held h t (point a) (point b) (point c) z → Held h u (point a) (point b) (point c) z
    triples a b c (point d) m = elim m.0 [
      | inl F ↦ elim m.1 [ inl G ↦ inl (full_union k g F G) | inr G ↦ absurd (full_against F G) ]
      | inr F ↦ elim m.1 [ inl G ↦ absurd (full_against F G) | inr G ↦ inr (full_union k g F G) ]
    ]
    triples a b c far m = elim m.0 [
      | inl F ↦ elim m.1 [ inl G ↦ inl (open_union i p q k g F G) | inr G ↦ absurd (open_against i p q F G) ]
      | inr F ↦ elim m.1 [ inl G ↦ absurd (open_against i p q F G) | inr G ↦ inr (open_union i p q k g F G) ]
    ]
