-- The cell across a triple.
use Rattle.std.specs.Prelude.{ℕ, pos, neg_ℤ, ◌≤ℤ◌, List, ◌⊎◌}
use Rattle.std.proofs.Common.{inl, inr}
use Rattle.whole_ring.specs.Signs.{below, at_zero, above}
use Rattle.whole_ring.proofs.Cited.{sign}
use Rattle.list_laws.specs.Laws.{HasLeastRatio}
use Rattle.list_laws.proofs.Cited.{clash, clash_above, find_least, turned_below, turned_most, weak, weak_below}
use Rattle.list_laws.proofs.Cited.{zero_weak}
use Rattle.point_order.specs.Orientation.{orientation}
use Rattle.point_order.specs.Heights.{lifted}
use Rattle.point_order.specs.Sets.{IsIn}
use Rattle.point_order.proofs.Cited.{swap_middle}
use Rattle.del_laws.specs.Cells.{Full, Open, Vertex, point, far, On}
use Rattle.del_laws.proofs.Identities.{lifted_swap23, pencil_of}
use Rattle.del_laws.proofs.Pencils.{beyond, nearest, lowest, mate_sign}
use Rattle.del_laws.proofs.CellFacts.{full_cell, full_a, full_b, full_c, full_d, full_turned, full_empty, open_by_mate}
use Rattle.del_laws.proofs.CellFacts.{open_a, open_b, open_c, open_mate, open_bounds, open_ties}

-- across a triple of a Full cell lies another Full cell, or the triple is an Open cell
pub across_full : {h : ℕ → ℕ} {s : List ℕ} {a b c d : ℕ} → Full h s a b c d → ((f : ℕ) × Full h s a c b f)
    ⊎ Open h s a b c
across_full {h} {s} {a} {b} {c} {d} F =
    elim (find_least (λ x. lifted h a b c d x) (λ x. neg_ℤ (orientation a b c x)) s) [
      | inl n ↦ inr (open_by_mate (full_a F) (full_b F) (full_c F) d (full_d F) (full_turned F)
          (λ e m. turned_most (orientation a b c e) (n e m)) (λ e m z. full_empty F e m))
      | inr l ↦ inl (
        l.0,
        full_cell (full_a F) (full_c F) (full_b F) l.1.found (rw swap_middle l.1.positive)
            (λ e m. rw lifted_swap23 (elim (sign (orientation a b c e)) [
              | below p ↦ nearest (orientation a b c d) (orientation a b c l.0) (orientation a b c e)
                  (lifted h a b c d l.0)
                  (lifted h a b c d e) (lifted h a b c l.0 e) (pencil_of h a b c d l.0 e) (full_turned F)
                  (l.1.least e m (turned_below (orientation a b c e) p))
              | at_zero p ↦ other_side l e m (zero_weak (orientation a b c e) p)
              | above p ↦ other_side l e m (weak (orientation a b c e) p)
            ])),
      )
    ]
  where
    -- a point on the side of d
    other_side : (l : (best : ℕ) × HasLeastRatio (λ x. lifted h a b c d x) (λ x. neg_ℤ (orientation a b c x)) s best)
        (e : ℕ) → IsIn e s → pos 0 ≤ℤ orientation a b c e → pos 0 ≤ℤ neg_ℤ (lifted h a b c l.0 e)
    other_side l e m p =
        beyond (orientation a b c d) (orientation a b c l.0) (orientation a b c e) (lifted h a b c d l.0)
        (lifted h a b c d e) (lifted h a b c l.0 e) (pencil_of h a b c d l.0 e) (full_turned F)
        (weak_below (orientation a b c l.0) l.1.positive) p (full_empty F l.0 l.1.found) (full_empty F e m)

-- across the triple of an Open cell lies a Full cell
pub across_open : {h : ℕ → ℕ} {s : List ℕ} {a b c : ℕ} → Open h s a b c → (d : ℕ) × Full h s a b c d
across_open {h} {s} {a} {b} {c} F =
    let k = open_mate F in
    elim (find_least (λ x. lifted h a b c k.0 x) (λ x. orientation a b c x) s) [
      | inl n ↦ absurd (clash_above (orientation a b c k.0) k.2 (n k.0 k.1))
      | inr l ↦ (
        l.0,
        full_cell (open_a F) (open_b F) (open_c F) l.1.found l.1.positive
            (λ e m. elim (sign (orientation a b c e)) [
              | below p ↦ absurd (clash (orientation a b c e) p (open_bounds F e m))
              | at_zero p ↦ mate_sign (orientation a b c k.0) (orientation a b c l.0) (orientation a b c e)
                  (lifted h a b c k.0 l.0) (lifted h a b c k.0 e) (lifted h a b c l.0 e) (pencil_of h a b c k.0 l.0 e)
                  k.2 (weak (orientation a b c l.0) l.1.positive) p (open_ties F k.0 e k.1 m k.2 p)
              | above p ↦ lowest (orientation a b c k.0) (orientation a b c l.0) (orientation a b c e)
                  (lifted h a b c k.0 l.0) (lifted h a b c k.0 e) (lifted h a b c l.0 e) (pencil_of h a b c k.0 l.0 e)
                  k.2 (l.1.least e m p)
            ]),
      )
    ]

-- so across a triple of any cell lies a cell on its other side
pub across : {h : ℕ → ℕ} {s : List ℕ} {a b c : ℕ} (z : Vertex) → On h s a b c z → (y : Vertex) × On h s a c b y
across (point d) F = elim (across_full F) [ inl t ↦ (point t.0, t.1) | inr t ↦ (far, t) ]
across far F = let t = across_open F in (point t.0, t.1)
