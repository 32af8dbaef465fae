-- A point taken from the one corner of a square of sets and added at the other: the fourth corner is solid, and reached
-- alike.
use Rattle.std.specs.Prelude.{◌≡◌, Bool, true, false, ◌≢◌, ◌↔◌}
use Rattle.std.proofs.Common.{refl, sym, ap, ◌∙◌, subst, inl, inr, ⊎_elim}
use Rattle.std.proofs.lemmas.Bool.{false≢true}
use Rattle.list_laws.proofs.Cited.{and_not, and_not_from}
use Rattle.del_laws.specs.Cells.{Vertex}
use Rattle.del_laws.specs.PointSets.{PointSet, solid, cell, has_as_point}
use Rattle.del_laws.proofs.Cited.{base, test_symmetric}
use Rattle.hole_laws.proofs.Tests.{AreLinked}
use Rattle.hole_laws.proofs.FromBase as from
use Rattle.hole_laws.proofs.Locality.{linked_at, at_linked}
use Rattle.hole_laws.proofs.Removal as removal
use Rattle.hole_laws.proofs.Squares.{Square, At, Rho, Disjoint, at_third, at_second, facet_point}

-- R with x and R with y are solid, and what y reaches from the one and x from the other is apart
module _ (R A B T : PointSet) (x y : Vertex) (q : Square R A B T x y)
    (sa : solid A ≡ true) (sb : solid B ≡ true) (d : Disjoint (Rho B T x) (Rho A T y)) where
  -- y is at no cell that x takes away
  y_beside : At B T y → ⊥
  y_beside h = d y (inr h) (inl refl)

  -- and x at none that y does
  x_beside : At A T x → ⊥
  x_beside h = d x (inl refl) (inr h)

  -- they are two points
  differ_points : y ≢ x
  differ_points e = false≢true (sym q.bt.absent ∙ ap (has_as_point B) (sym e) ∙ q.rb.present)

  -- the cells at y are the same without x
  star_down : (t1 t2 t3 : Vertex) → cell T t1 t2 t3 y ≡ true → cell B t1 t2 t3 y ≡ true
  star_down t1 t2 t3 h = from.old B T x sb q.bt t1 t2 t3 y h
      (λ e. x_beside (linked_at A T y sa q.at x q.bt.finite record {
        t1 = t2;
        t2 = t3;
        cell =
            ap (λ w. cell T t2 t3 w y) (sym e) ∙ sym ((test_symmetric T).middle t2 t1 t3 y)
            ∙ sym ((test_symmetric T).first t1 t2 t3 y) ∙ h;
      }))
      (λ e. x_beside (linked_at A T y sa q.at x q.bt.finite record {
        t1 = t1;
        t2 = t3;
        cell = ap (λ w. cell T t1 t3 w y) (sym e) ∙ sym ((test_symmetric T).middle t1 t2 t3 y) ∙ h;
      }))
      (λ e. x_beside (linked_at A T y sa q.at x q.bt.finite record {
        t1 = t1;
        t2 = t2;
        cell = ap (λ w. cell T t1 t2 w y) (sym e) ∙ h;
      }))
      differ_points

  -- and with it
  star_up : (t1 t2 t3 : Vertex) → cell B t1 t2 t3 y ≡ true → cell T t1 t2 t3 y ≡ true
  star_up t1 t2 t3 h = go (cell T t1 t2 t3 y) refl
    where
      go : (b : Bool) → cell T t1 t2 t3 y ≡ b → cell T t1 t2 t3 y ≡ true
      go true e = e
      go false e =
          absurd (y_beside record {
            t1 = t1;
            t2 = t2;
            t3 = t3;
            cell = and_not (cell B t1 t2 t3 y) (cell T t1 t2 t3 y) h
                e;
            finite = q.rb.finite;
          })

  -- so is what is beside y
  linked_up : (e : Vertex) → AreLinked (cell B) y e → AreLinked (cell T) y e
  linked_up e l = record { t1 = l.t1; t2 = l.t2; cell = star_up l.t1 l.t2 e l.cell }

  -- and back
  linked_down : (e : Vertex) → AreLinked (cell T) y e → AreLinked (cell B) y e
  linked_down e l = record { t1 = l.t1; t2 = l.t2; cell = star_down l.t1 l.t2 e l.cell }

  -- a point of B that x takes a cell from is not beside y
  far_point : (e : Vertex) → At B T e → solid R ≡ false → ⊥
  far_point e h f =
      d e (inr h) (inr (linked_at A T y sa q.at e h.finite (linked_up e (removal.flat_rest R B y q.rb sb f e
      (sym (q.rb.same e (λ p. y_beside (subst (At B T) p h))) ∙ base.point B h.t1 h.t2 h.t3 e
      (and_not_from (cell B h.t1 h.t2 h.t3 e) (cell T h.t1 h.t2 h.t3 e) h.cell).0 h.finite)))))

  -- so the fourth corner is solid
  pub corner_solid : solid R ≡ true
  corner_solid = go (solid R) refl
    where
      go : (b : Bool) → solid R ≡ b → solid R ≡ true
      go true e = e
      go false e =
          let m = from.rim B T x sb q.bt in
          let g = and_not (cell B m.t1 m.t2 m.t3 m.rim.lost) (cell T m.t1 m.t2 m.t3 m.rim.lost) m.rim.lost_before
          m.rim.lost_after in
          absurd (⊎_elim (λ n. far_point m.t3 (at_third B T m.t1 m.t2 m.t3 m.rim.lost g n) e)
          (λ n. far_point m.t2 (at_second B T m.t1 m.t2 m.t3 m.rim.lost g n) e)
          (facet_point B m.t1 m.t2 m.t3 m.rim.lost m.rim.lost_before))

  -- and y reaches the same from both sides
  pub opposite : (e : Vertex) → At R B e ↔ At A T e
  opposite e = (
    λ h. linked_at A T y sa q.at e h.finite (linked_up e (at_linked R B y corner_solid q.rb e h)),
    λ h. linked_at R B y corner_solid q.rb e h.finite (linked_down e (at_linked A T y sa q.at e h)),
  )
