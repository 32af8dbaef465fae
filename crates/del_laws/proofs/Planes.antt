-- Solid sets and the planes of three points; mates of Open cells.
use Rattle.std.specs.Prelude.{ℕ, pos, ◌*ℤ◌, ◌≡◌, ◌≤ℤ◌, ◌<ℤ◌, List}
use Rattle.std.proofs.Common.{inl, inr, ◌∙◌}
use Rattle.whole_ring.proofs.Cited.{zero_factor}
use Rattle.list_laws.proofs.Cited.{denied, is_at_zero, is_positive, not_other, not_zero, settled, some_in, zero_terms}
use Rattle.conv_laws.specs.Places.{IsZero, normal, orient}
use Rattle.conv_laws.proofs.Cited.{line_in_plane, only_on_line}
use Rattle.point_order.specs.Orientation.{orientation, triple, minor, x_from, y_from, z_from}
use Rattle.point_order.specs.Sets.{IsIn}
use Rattle.del_laws.specs.EmptySpheres.{place}
use Rattle.del_laws.specs.Cells.{Open, IsSolid, IsSubset}
use Rattle.del_laws.proofs.Identities.{orientation_carried}
use Rattle.del_laws.proofs.CellFacts.{open_mate, open_bounds}

-- ---- lines and planes

-- three points on one line
pub record IsLine (a b c : ℕ) : Type 0 where
  pub flat : IsZero (normal (place a) (place b) (place c))

-- the points of a plane that has four independent ones are on no such plane: at keys
on_line : (a b c k l m n : ℕ) → ¬ (orientation k l m n ≡ pos 0) → orientation a b c k ≡ pos 0 →
    orientation a b c l ≡ pos 0 → orientation a b c m ≡ pos 0 → orientation a b c n ≡ pos 0 → IsLine a b c
unfolding orientation orient triple minor x_from y_from z_from
on_line a b c k l m n d ek el em en =
    record { flat = only_on_line (place a) (place b) (place c) (place k) (place l) (place m) (place n) d ek el em en }

-- three points on one line lie in one plane with any fourth
pub line_flat : (a b c y : ℕ) → IsLine a b c → orientation a b c y ≡ pos 0
unfolding orientation orient triple minor x_from y_from z_from
line_flat a b c y l = line_in_plane (place a) (place b) (place c) (place y) l.flat

-- a solid set has a point off the plane of any three points that are not on one line
pub off_plane : (s : List ℕ) (a b c : ℕ) → IsSolid s → ¬ (IsLine a b c) → (f : ℕ) × IsIn f s
    × ¬ (orientation a b c f ≡ pos 0)
off_plane s a b c i n =
    elim (some_in (λ f. ¬ (orientation a b c f ≡ pos 0)) (λ f. denied (is_at_zero (orientation a b c f))) s) [
      | yes t ↦ t
      | no k ↦ (
          let zero = λ (e : ℕ) (m : IsIn e s). not_other (orientation a b c e) (λ q. k (e, m, q)) in
          absurd (n (on_line a b c i.f.a i.f.b i.f.c i.f.d i.apart (zero i.f.a i.has_a) (zero i.f.b i.has_b)
          (zero i.f.c i.has_c) (zero i.f.d i.has_d))))
    ]

-- a solid set, none of it below the plane of a, b, c, where some point is above: it has a point above too
mate_in : (a b c e : ℕ) (t : List ℕ) → IsSolid t → ((x : ℕ) → IsIn x t → pos 0 ≤ℤ orientation a b c x) →
    pos 0 <ℤ orientation a b c e → (f : ℕ) × IsIn f t × (pos 0 <ℤ orientation a b c f)
mate_in a b c e t i bounds l =
    elim (some_in (λ f. pos 0 <ℤ orientation a b c f) (λ f. is_positive (orientation a b c f)) t) [
      | yes p ↦ p
      | no p ↦ (
          let flat = λ (x : ℕ) (m : IsIn x t). settled (orientation a b c x) (bounds x m) (λ q. p (x, m, q)) in
          let k = i.f.a in
          let l' = i.f.b in
          let m = i.f.c in
          let n = i.f.d in
          let e0 : orientation k l' m n *ℤ orientation a b c e ≡ pos 0 = orientation_carried k l' m n e a b c
          ∙ zero_terms (orientation l' n m e) (orientation k m n e) (orientation k n l' e) (orientation k l' m e)
          (orientation a b c k) (orientation a b c l') (orientation a b c m) (orientation a b c n) (flat k i.has_a)
          (flat l' i.has_b) (flat m i.has_c) (flat n i.has_d) in
          elim (zero_factor (orientation k l' m n) (orientation a b c e) e0) [
            | inl z ↦ absurd (i.apart z)
            | inr z ↦ absurd (not_zero (orientation a b c e) l z)
          ])
    ]

-- ---- Open cells

-- an Open cell has a mate in each solid part of the set
pub mate_within : {h : ℕ → ℕ} {t s : List ℕ} {a b c : ℕ} → IsSubset t s → IsSolid t → Open h s a b c →
    (f : ℕ) × IsIn f t × (pos 0 <ℤ orientation a b c f)
mate_within {h} {t} {s} {a} {b} {c} u i F =
    (let k = open_mate F in mate_in a b c k.0 t i (λ x m. open_bounds F x (u.inside x m)) k.2)

-- the points of an Open cell are not on one line
pub open_not_line : {h : ℕ → ℕ} {s : List ℕ} {a b c : ℕ} → Open h s a b c → ¬ (IsLine a b c)
open_not_line {h} {s} {a} {b} {c} F l =
    (let k = open_mate F in not_zero (orientation a b c k.0) k.2 (line_flat a b c k.0 l))
