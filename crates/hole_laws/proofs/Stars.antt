-- Closed parts of a complex and of a star, from those of their Full cells: each Open cell has a Full one across its
-- triple.
use Rattle.std.specs.Prelude.{◌≡◌, Bool, true, ◌≢◌, ◌⊎◌}
use Rattle.std.proofs.Common.{sym, ap, ◌∙◌, inl, inr}
use Rattle.del_laws.specs.Cells.{Vertex, far}
use Rattle.del_laws.specs.Base.{Symmetric, Symmetric3, AreFinite, ClosedFull, StarFull}
use Rattle.hole_laws.proofs.Tests.{IsComplex, ClosedPart, ClosedStar}
use Rattle.hole_laws.proofs.Vertices.{cases_vertex, first_last, second_last}
use Rattle.hole_laws.proofs.Rims.{last_apart}

module _ (c : Vertex → Vertex → Vertex → Vertex → Bool) (k : IsComplex c) where
  -- the cell across the triple of an Open cell is Full
  open_full : (x y z w : Vertex) → c x y z far ≡ true → w ≢ far → AreFinite x y z w
  open_full x y z w h n = let a = last_apart c k x y z far h in
      record { finite1 = λ e. a.2 (sym e); finite2 = λ e. a.1 (sym e); finite3 = λ e. a.0 (sym e); finite4 = n }

  -- so a part that is closed for its Full cells is closed
  pub closed_part : ClosedFull c → ClosedPart c
  closed_part law Q s a1 a2 a3 a4 ha qa closed =
      λ b1 b2 b3 b4 h. whole b1 b2 b3 b4 h (cases_vertex b1 far) (cases_vertex b2 far) (cases_vertex b3 far)
      (cases_vertex b4 far)
    where
      sc : Symmetric c
      sc = k.laws.symmetric

      from_full : (w x y z : Vertex) → AreFinite w x y z → c w x y z ≡ true → Q w x y z ≡ true →
          (b1 b2 b3 b4 : Vertex) → AreFinite b1 b2 b3 b4 → c b1 b2 b3 b4 ≡ true → Q b1 b2 b3 b4 ≡ true
      from_full w x y z f h q = law Q s w x y z f h q (λ t1 t2 t3 x y f n. closed t1 t2 t3 x y)

      from_open : (x y z : Vertex) → c x y z far ≡ true → Q x y z far ≡ true →
          (b1 b2 b3 b4 : Vertex) → AreFinite b1 b2 b3 b4 → c b1 b2 b3 b4 ≡ true → Q b1 b2 b3 b4 ≡ true
      from_open x y z h q =
          let d = k.laws.across x y z far h in from_full x y z d.beyond (open_full x y z d.beyond h d.other) d.cell
          (closed x y z far d.beyond h q d.cell)

      start : (a1 ≡ far) ⊎ (a1 ≡ far → ⊥) → (a2 ≡ far) ⊎ (a2 ≡ far → ⊥) → (a3 ≡ far) ⊎ (a3 ≡ far → ⊥) →
          (a4 ≡ far) ⊎ (a4 ≡ far → ⊥) →
          (b1 b2 b3 b4 : Vertex) → AreFinite b1 b2 b3 b4 → c b1 b2 b3 b4 ≡ true → Q b1 b2 b3 b4 ≡ true
      start p q r (inl e) = from_open a1 a2 a3 (ap (c a1 a2 a3) (sym e) ∙ ha) (ap (Q a1 a2 a3) (sym e) ∙ qa)
      start p q (inl e) (inr l) =
          from_open a1 a2 a4 (ap (c a1 a2 a4) (sym e) ∙ sym (sc.last a1 a2 a3 a4) ∙ ha)
          (ap (Q a1 a2 a4) (sym e) ∙ sym (s.last a1 a2 a3 a4) ∙ qa)
      start p (inl e) (inr j) (inr l) =
          from_open a1 a3 a4 (ap (c a1 a3 a4) (sym e) ∙ sym (second_last c sc a1 a2 a3 a4) ∙ ha)
          (ap (Q a1 a3 a4) (sym e) ∙ sym (second_last Q s a1 a2 a3 a4) ∙ qa)
      start (inl e) (inr i) (inr j) (inr l) =
          from_open a2 a3 a4 (ap (c a2 a3 a4) (sym e) ∙ sym (first_last c sc a1 a2 a3 a4) ∙ ha)
          (ap (Q a2 a3 a4) (sym e) ∙ sym (first_last Q s a1 a2 a3 a4) ∙ qa)
      start (inr m) (inr i) (inr j) (inr l) =
          from_full a1 a2 a3 a4 record { finite1 = m; finite2 = i; finite3 = j; finite4 = l } ha qa

      full : (b1 b2 b3 b4 : Vertex) → AreFinite b1 b2 b3 b4 → c b1 b2 b3 b4 ≡ true → Q b1 b2 b3 b4 ≡ true
      full = start (cases_vertex a1 far) (cases_vertex a2 far) (cases_vertex a3 far) (cases_vertex a4 far)

      opens : (x y z : Vertex) → c x y z far ≡ true → Q x y z far ≡ true
      opens x y z h =
          let d = k.laws.across x y z far h in closed x y z d.beyond far d.cell
          (full x y z d.beyond (open_full x y z d.beyond h d.other) d.cell) h

      whole : (b1 b2 b3 b4 : Vertex) → c b1 b2 b3 b4 ≡ true → (b1 ≡ far) ⊎ (b1 ≡ far → ⊥) →
          (b2 ≡ far) ⊎ (b2 ≡ far → ⊥) → (b3 ≡ far) ⊎ (b3 ≡ far → ⊥) → (b4 ≡ far) ⊎ (b4 ≡ far → ⊥) →
          Q b1 b2 b3 b4 ≡ true
      whole b1 b2 b3 b4 h p q r (inl e) = ap (Q b1 b2 b3) e ∙ opens b1 b2 b3 (ap (c b1 b2 b3) (sym e) ∙ h)
      whole b1 b2 b3 b4 h p q (inl e) (inr l) =
          s.last b1 b2 b3 b4 ∙ ap (Q b1 b2 b4) e ∙ opens b1 b2 b4 (ap (c b1 b2 b4) (sym e) ∙ sym (sc.last b1 b2 b3 b4)
          ∙ h)
      whole b1 b2 b3 b4 h p (inl e) (inr j) (inr l) =
          second_last Q s b1 b2 b3 b4 ∙ ap (Q b1 b3 b4) e ∙ opens b1 b3 b4
          (ap (c b1 b3 b4) (sym e) ∙ sym (second_last c sc b1 b2 b3 b4) ∙ h)
      whole b1 b2 b3 b4 h (inl e) (inr i) (inr j) (inr l) =
          first_last Q s b1 b2 b3 b4 ∙ ap (Q b2 b3 b4) e ∙ opens b2 b3 b4
          (ap (c b2 b3 b4) (sym e) ∙ sym (first_last c sc b1 b2 b3 b4) ∙ h)
      whole b1 b2 b3 b4 h (inr m) (inr i) (inr j) (inr l) =
          full b1 b2 b3 b4 record { finite1 = m; finite2 = i; finite3 = j; finite4 = l } h

  -- and so is the part at a point
  pub star_closed : (p : Vertex) → p ≢ far → StarFull c p → ClosedStar c p
  star_closed p np law Q s a1 a2 a3 ha qa closed =
      λ b1 b2 b3 h. whole b1 b2 b3 h (cases_vertex b1 far) (cases_vertex b2 far) (cases_vertex b3 far)
    where
      s3 : Symmetric3 (λ x y z. c x y z p)
      s3 = record { first = λ x y z. k.laws.symmetric.first x y z p; last = λ x y z. k.laws.symmetric.middle x y z p }

      cycle : (R : Vertex → Vertex → Vertex → Bool) → Symmetric3 R → (x y z : Vertex) → R x y z ≡ R y z x
      cycle R t x y z = t.first x y z ∙ t.last y x z

      -- an open cell at p, and the one of four points across its triple
      inner : (x y : Vertex) → c x y far p ≡ true → (w : Vertex) × AreFinite x y w p × (c x y w p ≡ true)
      inner x y h =
          let g = k.laws.symmetric.last x y p far ∙ h in
          let d = k.laws.across x y p far g in
          let f = open_full x y p d.beyond g d.other in (
            d.beyond,
            record { finite1 = f.finite1; finite2 = f.finite2; finite3 = d.other; finite4 = np },
            sym (k.laws.symmetric.last x y p d.beyond) ∙ d.cell,
          )

      from_full : (x y z : Vertex) → AreFinite x y z p → c x y z p ≡ true → Q x y z ≡ true → (b1 b2 b3 : Vertex) →
          AreFinite b1 b2 b3 p → c b1 b2 b3 p ≡ true → Q b1 b2 b3 ≡ true
      from_full x y z f h q = law Q s x y z f h q (λ t1 t2 x y f n. closed t1 t2 x y)

      from_open : (x y : Vertex) → c x y far p ≡ true → Q x y far ≡ true → (b1 b2 b3 : Vertex) → AreFinite b1 b2 b3 p →
          c b1 b2 b3 p ≡ true → Q b1 b2 b3 ≡ true
      from_open x y h q = let d = inner x y h in from_full x y d.0 d.1 d.2 (closed x y far d.0 h q d.2)

      start : (a1 ≡ far) ⊎ (a1 ≡ far → ⊥) → (a2 ≡ far) ⊎ (a2 ≡ far → ⊥) → (a3 ≡ far) ⊎ (a3 ≡ far → ⊥) →
          (b1 b2 b3 : Vertex) → AreFinite b1 b2 b3 p → c b1 b2 b3 p ≡ true → Q b1 b2 b3 ≡ true
      start i j (inl e) = from_open a1 a2 (ap (λ u. c a1 a2 u p) (sym e) ∙ ha) (ap (Q a1 a2) (sym e) ∙ qa)
      start i (inl e) (inr l) =
          from_open a1 a3 (ap (λ u. c a1 a3 u p) (sym e) ∙ sym (s3.last a1 a2 a3) ∙ ha)
          (ap (Q a1 a3) (sym e) ∙ sym (s.last a1 a2 a3) ∙ qa)
      start (inl e) (inr j) (inr l) =
          from_open a2 a3 (ap (λ u. c a2 a3 u p) (sym e) ∙ sym (cycle (λ x y z. c x y z p) s3 a1 a2 a3) ∙ ha)
          (ap (Q a2 a3) (sym e) ∙ sym (cycle Q s a1 a2 a3) ∙ qa)
      start (inr i) (inr j) (inr l) =
          from_full a1 a2 a3 record { finite1 = i; finite2 = j; finite3 = l; finite4 = np } ha qa

      full : (b1 b2 b3 : Vertex) → AreFinite b1 b2 b3 p → c b1 b2 b3 p ≡ true → Q b1 b2 b3 ≡ true
      full = start (cases_vertex a1 far) (cases_vertex a2 far) (cases_vertex a3 far)

      opens : (x y : Vertex) → c x y far p ≡ true → Q x y far ≡ true
      opens x y h = let d = inner x y h in closed x y d.0 far d.2 (full x y d.0 d.1 d.2) h

      whole : (b1 b2 b3 : Vertex) → c b1 b2 b3 p ≡ true → (b1 ≡ far) ⊎ (b1 ≡ far → ⊥) → (b2 ≡ far) ⊎ (b2 ≡ far → ⊥) →
          (b3 ≡ far) ⊎ (b3 ≡ far → ⊥) → Q b1 b2 b3 ≡ true
      whole b1 b2 b3 h i j (inl e) = ap (Q b1 b2) e ∙ opens b1 b2 (ap (λ u. c b1 b2 u p) (sym e) ∙ h)
      whole b1 b2 b3 h i (inl e) (inr l) =
          s.last b1 b2 b3 ∙ ap (Q b1 b3) e ∙ opens b1 b3 (ap (λ u. c b1 b3 u p) (sym e) ∙ sym (s3.last b1 b2 b3) ∙ h)
      whole b1 b2 b3 h (inl e) (inr j) (inr l) =
          cycle Q s b1 b2 b3 ∙ ap (Q b2 b3) e ∙ opens b2 b3 (ap (λ u. c b2 b3 u p) (sym e)
          ∙ sym (cycle (λ x y z. c x y z p) s3 b1 b2 b3) ∙ h)
      whole b1 b2 b3 h (inr i) (inr j) (inr l) =
          full b1 b2 b3 record { finite1 = i; finite2 = j; finite3 = l; finite4 = np } h
