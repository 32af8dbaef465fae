-- New cells stand on the facets between a cell that goes and one that stays.
use Rattle.std.specs.Prelude.{◌≡◌, Bool, true, false, not, ◌&&◌, ◌≢◌, ◌⊎◌}
use Rattle.std.proofs.Common.{refl, sym, ap, ap₂, ◌∙◌, inl, inr, arith}
use Rattle.std.proofs.lemmas.Bool.{false≢true}
use Rattle.del_laws.specs.Cells.{Vertex}
use Rattle.del_laws.specs.Base.{Symmetric, Across}
use Rattle.hole_laws.proofs.Tests.{IsComplex, Insertion, IsRim}
use Rattle.hole_laws.proofs.Vertices.{cases_vertex}

-- ---- tests with two answers

-- what passes one symmetric test and not another
pub without_symmetric : (f g : Vertex → Vertex → Vertex → Vertex → Bool) → Symmetric f → Symmetric g →
    Symmetric (λ w x y z. f w x y z && not (g w x y z))
without_symmetric f g s t = record {
  first = λ w x y z. ap₂ (λ a b. a && not b) (s.first w x y z) (t.first w x y z);
  middle = λ w x y z. ap₂ (λ a b. a && not b) (s.middle w x y z) (t.middle w x y z);
  last = λ w x y z. ap₂ (λ a b. a && not b) (s.last w x y z) (t.last w x y z);
}

-- ---- facets

-- the vertices of a cell differ
pub last_apart : (c : Vertex → Vertex → Vertex → Vertex → Bool) → IsComplex c → (w x y z : Vertex) → c w x y z ≡ true →
    (z ≢ y) × (z ≢ x) × (z ≢ w)
last_apart c k w x y z h = (
  λ e. false≢true (sym (k.laws.apart w x y) ∙ ap (c w x y) (sym e) ∙ h),
  λ e. false≢true (sym (k.laws.apart w y x) ∙ ap (c w y x) (sym e) ∙ k.laws.symmetric.middle w y x z ∙ h),
  λ e. false≢true (sym (k.laws.apart x y w) ∙ ap (c x y w) (sym e) ∙ k.laws.symmetric.middle x y w z
      ∙ k.laws.symmetric.first x w y z ∙ h),
)

-- no cell of the smaller set has p
pub absent_all : (c c' : Vertex → Vertex → Vertex → Vertex → Bool) (p : Vertex) → Insertion c c' p →
    (w x y z : Vertex) → c w x y z ≡ true →
    (w ≢ p) × (x ≢ p) × (y ≢ p) × (z ≢ p)
absent_all c c' p k w x y z h = (
  λ e. false≢true (sym (k.absent x y z) ∙ ap (c x y z) (sym e) ∙ s.last x y z w ∙ s.middle x y w z ∙ s.first x w y z
      ∙ h),
  λ e. false≢true (sym (k.absent w y z) ∙ ap (c w y z) (sym e) ∙ s.last w y z x ∙ s.middle w y x z ∙ h),
  λ e. false≢true (sym (k.absent w x z) ∙ ap (c w x z) (sym e) ∙ s.last w x z y ∙ h),
  λ e. false≢true (sym (k.absent w x y) ∙ ap (c w x y) (sym e) ∙ h),
)
  where
    s : Symmetric c
    s = k.before.laws.symmetric

-- two cells on a facet other than z are one
pub across_one : (c : Vertex → Vertex → Vertex → Vertex → Bool) → IsComplex c → (t1 t2 t3 x y z : Vertex) →
    c t1 t2 t3 x ≡ true → c t1 t2 t3 y ≡ true → c t1 t2 t3 z ≡ true → x ≢ z → y ≢ z → x ≡ y
across_one c k t1 t2 t3 x y z hx hy hz nx ny =
    let a = k.laws.across t1 t2 t3 z hz in
    pick x y z a.beyond (a.only x hx) (a.only y hy) nx ny
  where
    pick : (x y z f : Vertex) → (x ≡ z) ⊎ (x ≡ f) → (y ≡ z) ⊎ (y ≡ f) → x ≢ z → y ≢ z → x ≡ y
    pick x y z f a b m n = grind arith

-- under a new cell there is a rim facet
pub new_has_rim : (c c' : Vertex → Vertex → Vertex → Vertex → Bool) (p : Vertex) → Insertion c c' p →
    (t1 t2 t3 : Vertex) →
    c' t1 t2 t3 p ≡ true → IsRim c c' t1 t2 t3
new_has_rim c c' p k t1 t2 t3 h =
    record {
      kept = a.beyond;
      lost = b.beyond;
      kept_before = kept_before;
      kept_after = a.cell;
      lost_before = b.cell;
      lost_after = lost (c' t1 t2 t3 b.beyond) refl;
    }
  where
    n : (p ≢ t3) × (p ≢ t2) × (p ≢ t1)
    n = last_apart c' k.after t1 t2 t3 p h

    a : Across c' t1 t2 t3 p
    a = k.after.laws.across t1 t2 t3 p h

    kept_before : c t1 t2 t3 a.beyond ≡ true
    kept_before = k.old t1 t2 t3 a.beyond a.cell (λ e. n.2 (sym e)) (λ e. n.1 (sym e)) (λ e. n.0 (sym e)) a.other

    b : Across c t1 t2 t3 a.beyond
    b = k.before.laws.across t1 t2 t3 a.beyond kept_before

    lost : (r : Bool) → c' t1 t2 t3 b.beyond ≡ r → r ≡ false
    lost false e = refl
    lost true e = elim (a.only b.beyond e) [
      | inl q ↦ absurd ((absent_all c c' p k t1 t2 t3 b.beyond b.cell).3 q)
      | inr q ↦ absurd (b.other q)
    ]

-- and over a rim facet there is a new cell
pub rim_makes_new : (c c' : Vertex → Vertex → Vertex → Vertex → Bool) (p : Vertex) → Insertion c c' p →
    (t1 t2 t3 : Vertex) →
    IsRim c c' t1 t2 t3 → c' t1 t2 t3 p ≡ true
rim_makes_new c c' p k t1 t2 t3 r = done (cases_vertex w.beyond p)
  where
    w : Across c' t1 t2 t3 r.kept
    w = k.after.laws.across t1 t2 t3 r.kept r.kept_after

    n : (t1 ≢ p) × (t2 ≢ p) × (t3 ≢ p) × (r.kept ≢ p)
    n = absent_all c c' p k t1 t2 t3 r.kept r.kept_before

    differs : r.lost ≢ r.kept
    differs e = false≢true (sym r.lost_after ∙ ap (c' t1 t2 t3) e ∙ r.kept_after)

    done : (w.beyond ≡ p) ⊎ (w.beyond ≡ p → ⊥) → c' t1 t2 t3 p ≡ true
    done (inl e) = ap (c' t1 t2 t3) (sym e) ∙ w.cell
    done (inr m) =
        let e = across_one c k.before t1 t2 t3 r.lost w.beyond r.kept r.lost_before
        (k.old t1 t2 t3 w.beyond w.cell n.0 n.1 n.2 m) r.kept_before differs w.other in
        absurd (false≢true (sym r.lost_after ∙ ap (c' t1 t2 t3) e ∙ w.cell))
