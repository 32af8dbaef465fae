-- Which cells stay when a point is added, by signs.
use Rattle.std.specs.Prelude.{ℕ, pos, ◌≤ℤ◌, ◌<ℤ◌, List, ◌∷◌}
use Rattle.std.proofs.Common.{refl, inl, inr, subst, ◌∙◌, ap}
use Rattle.list_laws.proofs.Cited.{weak}
use Rattle.point_order.specs.Orientation.{orientation}
use Rattle.point_order.specs.Heights.{lifted}
use Rattle.point_order.specs.Sets.{IsIn}
use Rattle.del_laws.specs.Cells.{Full, Open, IsOutside}
use Rattle.del_laws.proofs.Identities.{pencil_of}
use Rattle.del_laws.proofs.CellFacts.{full_cell, full_a, full_b, full_c, full_d, full_turned, full_empty, open_by_mate}
use Rattle.del_laws.proofs.CellFacts.{open_a, open_b, open_c, open_mate, open_bounds, open_ties}
use Rattle.del_laws.proofs.Pencils.{mate_sign}

-- it does not matter which mate
pub outside_any : (h : ℕ → ℕ) (a b c m k p : ℕ) → pos 0 <ℤ orientation a b c m → pos 0 <ℤ orientation a b c k →
    IsOutside h a b c m p → IsOutside h a b c k p
outside_any h a b c m k p lm lk t = record {
  side = t.side;
  tie = λ z. mate_sign (orientation a b c m) (orientation a b c k) (orientation a b c p) (lifted h a b c m k)
      (lifted h a b c m p) (lifted h a b c k p) (pencil_of h a b c m k p) lm (weak (orientation a b c k) lk) z
      (t.tie z);
}

-- ---- cells that stay

-- a Full cell that p is not inside stays
pub full_stays : {h : ℕ → ℕ} {s : List ℕ} {a b c d p : ℕ} → Full h s a b c d → pos 0 ≤ℤ lifted h a b c d p →
    Full h (p ∷ s) a b c d
full_stays {h} {s} {a} {b} {c} {d} {p} F k =
    full_cell (inr (full_a F)) (inr (full_b F)) (inr (full_c F)) (inr (full_d F)) (full_turned F)
    (λ e m. elim m [ inl q ↦ subst (λ x. pos 0 ≤ℤ lifted h a b c d x) q k | inr r ↦ full_empty F e r ])

-- a Full cell that is there with p does not have p inside
pub full_kept : {h : ℕ → ℕ} {s : List ℕ} {a b c d p : ℕ} → Full h (p ∷ s) a b c d → pos 0 ≤ℤ lifted h a b c d p
full_kept {h} {s} {a} {b} {c} {d} {p} F = full_empty F p (inl refl)

-- an Open cell not in conflict, as any mate sees it, stays
pub open_stays : {h : ℕ → ℕ} {s : List ℕ} {a b c p : ℕ} → Open h s a b c → (m : ℕ) → pos 0 <ℤ orientation a b c m →
    IsOutside h a b c m p → Open h (p ∷ s) a b c
open_stays {h} {s} {a} {b} {c} {p} F m l t =
    let k = open_mate F in
    let u = outside_any h a b c m k.0 p l k.2 t in
    open_by_mate (inr (open_a F)) (inr (open_b F)) (inr (open_c F)) k.0 (inr k.1) k.2
    (λ e i. elim i [ inl q ↦ subst (λ x. pos 0 ≤ℤ orientation a b c x) q u.side | inr r ↦ open_bounds F e r ])
    (λ e i z. elim i [
      | inl q ↦ subst (λ x. pos 0 ≤ℤ lifted h a b c k.0 x) q (u.tie (ap (λ x. orientation a b c x) q ∙ z))
      | inr r ↦ open_ties F k.0 e k.1 r k.2 z
    ])

-- an Open cell that is there with p is not in conflict with it, for any mate
pub open_kept : {h : ℕ → ℕ} {s : List ℕ} {a b c m p : ℕ} → Open h (p ∷ s) a b c → IsIn m s →
    pos 0 <ℤ orientation a b c m → IsOutside h a b c m p
open_kept {h} {s} {a} {b} {c} {m} {p} F k l =
    record { side = open_bounds F p (inl refl); tie = λ z. open_ties F m p (inr k) (inl refl) l z }
