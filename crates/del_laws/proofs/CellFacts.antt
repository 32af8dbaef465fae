-- What a cell shows, each fact stated once: its points, its orientation, what keeps out of it, and its mates; and cells
-- of other lists. This file opens the definition of a cell; no other does.
use Rattle.std.specs.Prelude.{ℕ, pos, ◌≡◌, ◌≤ℤ◌, ◌<ℤ◌, List}
use Rattle.list_laws.proofs.Cited.{against, not_zero, opposite, weak}
use Rattle.point_order.specs.Orientation.{orientation}
use Rattle.point_order.specs.Heights.{lifted}
use Rattle.point_order.specs.Sets.{IsIn}
use Rattle.point_order.proofs.Cited.{swap_middle}
use Rattle.del_laws.specs.Cells.{Full, Open, OneOf, IsSolid}
use Rattle.del_laws.proofs.Identities.{pencil_of}
use Rattle.del_laws.proofs.Lists.{of_four}
use Rattle.del_laws.proofs.Pencils.{mate_sign}

-- ---- Full cells

-- four points of the set, of a positive orientation, with no point inside their sphere
pub full_cell : {h : ℕ → ℕ} {s : List ℕ} {a b c d : ℕ} → IsIn a s → IsIn b s → IsIn c s → IsIn d s →
    pos 0 <ℤ orientation a b c d → ((e : ℕ) → IsIn e s → pos 0 ≤ℤ lifted h a b c d e) → Full h s a b c d
full_cell ma mb mc md o f = record { has_a = ma; has_b = mb; has_c = mc; has_d = md; turned = o; empty = f }

-- its first point is in the set
pub full_a : {h : ℕ → ℕ} {s : List ℕ} {a b c d : ℕ} → Full h s a b c d → IsIn a s
full_a F = F.has_a

-- the second
pub full_b : {h : ℕ → ℕ} {s : List ℕ} {a b c d : ℕ} → Full h s a b c d → IsIn b s
full_b F = F.has_b

-- the third
pub full_c : {h : ℕ → ℕ} {s : List ℕ} {a b c d : ℕ} → Full h s a b c d → IsIn c s
full_c F = F.has_c

-- the fourth
pub full_d : {h : ℕ → ℕ} {s : List ℕ} {a b c d : ℕ} → Full h s a b c d → IsIn d s
full_d F = F.has_d

-- each of them
pub full_point : {h : ℕ → ℕ} {s : List ℕ} {a b c d e : ℕ} → Full h s a b c d → OneOf e a b c d → IsIn e s
full_point {h} {s} F m = of_four (λ x. IsIn x s) m F.has_a F.has_b F.has_c F.has_d

-- its orientation is positive
pub full_turned : {h : ℕ → ℕ} {s : List ℕ} {a b c d : ℕ} → Full h s a b c d → pos 0 <ℤ orientation a b c d
full_turned F = F.turned

-- its points are independent
pub full_apart : {h : ℕ → ℕ} {s : List ℕ} {a b c d : ℕ} → Full h s a b c d → ¬ (orientation a b c d ≡ pos 0)
full_apart {h} {s} {a} {b} {c} {d} F z = not_zero (orientation a b c d) F.turned z

-- no point of the set is inside its sphere
pub full_empty : {h : ℕ → ℕ} {s : List ℕ} {a b c d : ℕ} → Full h s a b c d → (e : ℕ) → IsIn e s →
    pos 0 ≤ℤ lifted h a b c d e
full_empty F e m = F.empty e m

-- no four points are Full in two orders of opposite sign
pub full_against : {h : ℕ → ℕ} {s t : List ℕ} {a b c d : ℕ} → Full h s a b c d → Full h t a c b d → ⊥
full_against {h} {s} {t} {a} {b} {c} {d} F G =
    against (orientation a b c d) (orientation a c b d) F.turned (weak (orientation a c b d) G.turned)
    (swap_middle a b c d)

-- a set with a Full cell is solid
pub full_solid : {h : ℕ → ℕ} {s : List ℕ} {a b c d : ℕ} → Full h s a b c d → IsSolid s
full_solid {h} {s} {a} {b} {c} {d} F = record {
  f = record { a = a; b = b; c = c; d = d };
  has_a = F.has_a;
  has_b = F.has_b;
  has_c = F.has_c;
  has_d = F.has_d;
  apart = not_zero (orientation a b c d) F.turned;
}

-- it is one of each list with the same points
pub full_same : {h : ℕ → ℕ} {s t : List ℕ} {a b c d : ℕ} → ((e : ℕ) → IsIn e s → IsIn e t) →
    ((e : ℕ) → IsIn e t → IsIn e s) → Full h s a b c d → Full h t a b c d
full_same {h} {s} {t} {a} {b} {c} {d} f g F = record {
  has_a = f a F.has_a;
  has_b = f b F.has_b;
  has_c = f c F.has_c;
  has_d = f d F.has_d;
  turned = F.turned;
  empty = λ e m. F.empty e (g e m);
}

-- ---- Open cells

-- Three points of the set with a mate, no point below their plane, and the tie rule for this mate: it is the same for
-- all.
pub open_by_mate : {h : ℕ → ℕ} {s : List ℕ} {a b c : ℕ} → IsIn a s → IsIn b s → IsIn c s → (m : ℕ) → IsIn m s →
    pos 0 <ℤ orientation a b c m → ((e : ℕ) → IsIn e s → pos 0 ≤ℤ orientation a b c e) →
    ((e : ℕ) → IsIn e s → orientation a b c e ≡ pos 0 → pos 0 ≤ℤ lifted h a b c m e) → Open h s a b c
open_by_mate {h} {s} {a} {b} {c} ma mb mc m mm l f g = record {
  has_a = ma;
  has_b = mb;
  has_c = mc;
  mate = m;
  has_mate = mm;
  above = l;
  bounds = f;
  ties = λ k e i j p z. mate_sign (orientation a b c m) (orientation a b c k) (orientation a b c e) (lifted h a b c m k)
      (lifted h a b c m e) (lifted h a b c k e) (pencil_of h a b c m k e) l (weak (orientation a b c k) p) z (g e j z);
}

-- its first point is in the set
pub open_a : {h : ℕ → ℕ} {s : List ℕ} {a b c : ℕ} → Open h s a b c → IsIn a s
open_a F = F.has_a

-- the second
pub open_b : {h : ℕ → ℕ} {s : List ℕ} {a b c : ℕ} → Open h s a b c → IsIn b s
open_b F = F.has_b

-- the third
pub open_c : {h : ℕ → ℕ} {s : List ℕ} {a b c : ℕ} → Open h s a b c → IsIn c s
open_c F = F.has_c

-- it has a mate, a point of the set above its plane
pub open_mate : {h : ℕ → ℕ} {s : List ℕ} {a b c : ℕ} → Open h s a b c → (m : ℕ) × IsIn m s
    × (pos 0 <ℤ orientation a b c m)
open_mate F = (F.mate, F.has_mate, F.above)

-- no point of the set is below its plane
pub open_bounds : {h : ℕ → ℕ} {s : List ℕ} {a b c : ℕ} → Open h s a b c → (e : ℕ) → IsIn e s →
    pos 0 ≤ℤ orientation a b c e
open_bounds F e m = F.bounds e m

-- no point in its plane is inside its circle, as any mate sees it
pub open_ties : {h : ℕ → ℕ} {s : List ℕ} {a b c : ℕ} → Open h s a b c → (f e : ℕ) → IsIn f s → IsIn e s →
    pos 0 <ℤ orientation a b c f → orientation a b c e ≡ pos 0 → pos 0 ≤ℤ lifted h a b c f e
open_ties F f e i j l z = F.ties f e i j l z

-- no three points are Open in the order in which a point of the set is below them
pub open_under : {h : ℕ → ℕ} {s : List ℕ} {a b c : ℕ} (m : ℕ) → IsIn m s → pos 0 <ℤ orientation a b c m →
    Open h s a c b → ⊥
open_under {h} {s} {a} {b} {c} m i l F =
    against (orientation a b c m) (orientation a c b m) l (F.bounds m i) (swap_middle a b c m)

-- no Open cell has a point twice
pub open_not_twice : {h : ℕ → ℕ} {s : List ℕ} {a b : ℕ} → Open h s a b b → ⊥
open_not_twice {h} {s} {a} {b} F =
    let o = orientation a b b F.mate in
    not_zero o F.above (opposite o o (weak o F.above) (weak o F.above) (swap_middle a b b F.mate))

-- it is one of each list with the same points
pub open_same : {h : ℕ → ℕ} {s t : List ℕ} {a b c : ℕ} → ((e : ℕ) → IsIn e s → IsIn e t) →
    ((e : ℕ) → IsIn e t → IsIn e s) → Open h s a b c → Open h t a b c
open_same {h} {s} {t} {a} {b} {c} f g F = record {
  has_a = f a F.has_a;
  has_b = f b F.has_b;
  has_c = f c F.has_c;
  mate = F.mate;
  has_mate = f F.mate F.has_mate;
  above = F.above;
  bounds = λ e m. F.bounds e (g e m);
  ties = λ m e i j. F.ties m e (g m i) (g e j);
}
