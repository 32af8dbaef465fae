-- The cells that a removal makes are seen from the points beside the removed one: any solid set between these and the
-- rest will do.
use Rattle.std.specs.Prelude.{◌≡◌, Bool, true, false, ◌≢◌, ◌⊎◌}
use Rattle.std.proofs.Common.{refl, sym, ap, ◌∙◌, inl, inr}
use Rattle.std.proofs.lemmas.Bool.{false≢true}
use Rattle.list_laws.proofs.Cited.{and_not, and_not_from, false_if, same_test}
use Rattle.del_laws.specs.Cells.{Vertex, far}
use Rattle.del_laws.specs.Base.{Symmetric, Across, Corner, Within, IsVertexOf}
use Rattle.hole_laws.proofs.Tests.{Insertion, HasRim, AreLinked, IsOpposite, gone}
use Rattle.del_laws.specs.PointSets.{PointSet, solid, cell, has_as_point}
use Rattle.hole_laws.proofs.Tests.{IsAdd}
use Rattle.del_laws.proofs.Cited.{base, test_symmetric}
use Rattle.hole_laws.proofs.Vertices.{cases_vertex, first_last, second_last}
use Rattle.hole_laws.proofs.Rims.{last_apart, across_one, rim_makes_new, new_has_rim, without_symmetric}
use Rattle.hole_laws.proofs.Region.{region}
use Rattle.hole_laws.proofs.Stars as stars
use Rattle.hole_laws.proofs.FromBase.{complex_of}
use Rattle.hole_laws.proofs.FromBase as from

-- S is R with v; T is a solid part of R with all points beside v; U is T with v
module _ (R S T U : PointSet) (v : Vertex) (a : IsAdd R v S) (b : IsAdd T v U) (st : solid T ≡ true)
    (within : Within PointSet has_as_point T R)
    (beside : (q : Vertex) → q ≢ far → AreLinked (cell S) v q → has_as_point T q ≡ true) where
  -- all four sets are solid
  sr : solid R ≡ true
  sr = base.solid_more T R st within

  -- the set
  ss : solid S ≡ true
  ss = from.solid_add R S v sr a

  -- the small set with v
  su : solid U ≡ true
  su = from.solid_add T U v st b

  -- v comes to the rest
  ins : Insertion (cell R) (cell S) v
  ins = from.insertion R S v sr a

  -- and to the small set
  ins' : Insertion (cell T) (cell U) v
  ins' = from.insertion T U v st b

  -- the small set with v is within the set
  u_in_s : Within PointSet has_as_point U S
  u_in_s q h = go (cases_vertex q v)
    where
      go : (q ≡ v) ⊎ (q ≡ v → ⊥) → has_as_point S q ≡ true
      go (inl e) = ap (has_as_point S) e ∙ a.present
      go (inr n) = a.same q n ∙ within q (sym (b.same q n) ∙ h)

  -- and has the small set
  t_in_u : Within PointSet has_as_point T U
  t_in_u = from.larger T U v b

  -- a vertex beside v is one of the small set
  vertex_t : (q : Vertex) → AreLinked (cell S) v q → IsVertexOf PointSet has_as_point T q
  vertex_t q l = go (cases_vertex q far)
    where
      go : (q ≡ far) ⊎ (q ≡ far → ⊥) → IsVertexOf PointSet has_as_point T q
      go (inl e) = inl e
      go (inr n) = inr (beside q n l)

  -- and of the small set with v
  vertex_u : (q : Vertex) → IsVertexOf PointSet has_as_point T q → IsVertexOf PointSet has_as_point U q
  vertex_u q (inl e) = inl e
  vertex_u q (inr h) = inr (t_in_u q h)

  -- a cell at v in the set is one in the small set with v
  star_down : (t1 t2 t3 : Vertex) → cell S t1 t2 t3 v ≡ true → cell U t1 t2 t3 v ≡ true
  star_down t1 t2 t3 h = base.smaller S U su u_in_s t1 t2 t3 v h
      (vertex_u t1 (vertex_t t1 record {
        t1 = t2;
        t2 = t3;
        cell = sym ((test_symmetric S).middle t2 t1 t3 v)
            ∙ sym ((test_symmetric S).first t1 t2 t3 v) ∙ h;
      }))
      (vertex_u t2 (vertex_t t2 record { t1 = t1; t2 = t3; cell = sym ((test_symmetric S).middle t1 t2 t3 v) ∙ h }))
      (vertex_u t3 (vertex_t t3 record { t1 = t1; t2 = t2; cell = h }))
      (inr b.present)

  -- and there are no others there
  star_up : (t1 t2 t3 : Vertex) → cell U t1 t2 t3 v ≡ true → cell S t1 t2 t3 v ≡ true
  star_up =
      stars.star_closed (cell U) (complex_of U) v b.finite (base.star_full U v b.present)
      (λ t1 t2 t3. cell S t1 t2 t3 v)
      record { first = λ x y z. (test_symmetric S).first x y z v; last = λ x y z. (test_symmetric S).middle x y z v }
      k.t1 k.t2 k.t3 (star_down k.t1 k.t2 k.t3 k.cell) k.cell step
    where
      k : Corner (cell S) v
      k = base.corner S v ss a.present

      step : (t1 t2 x y : Vertex) → cell U t1 t2 x v ≡ true → cell S t1 t2 x v ≡ true → cell U t1 t2 y v ≡ true →
          cell S t1 t2 y v ≡ true
      step t1 t2 x y ux hx uy = go (cases_vertex y x)
        where
          w : Across (cell S) t1 t2 v x
          w = (complex_of S).laws.across t1 t2 v x ((test_symmetric S).last t1 t2 v x ∙ hx)

          hw : cell S t1 t2 w.beyond v ≡ true
          hw = sym ((test_symmetric S).last t1 t2 v w.beyond) ∙ w.cell

          go : (y ≡ x) ⊎ (y ≡ x → ⊥) → cell S t1 t2 y v ≡ true
          go (inl e) = ap (λ q. cell S t1 t2 q v) e ∙ hx
          go (inr n) = ap (λ q. cell S t1 t2 q v) (across_one (cell U) (complex_of U) t1 t2 v y w.beyond x
              ((test_symmetric U).last t1 t2 v y ∙ uy) ((test_symmetric U).last t1 t2 v w.beyond
              ∙ star_down t1 t2 w.beyond hw) ((test_symmetric U).last t1 t2 v x ∙ ux) n w.other) ∙ hw

  -- the vertices of a cell that goes are beside v
  vertex_gone : (w x y z : Vertex) → gone (cell R) (cell S) w x y z ≡ true → IsVertexOf PointSet has_as_point T z
  vertex_gone w x y z h = go (cases_vertex z far)
    where
      go : (z ≡ far) ⊎ (z ≡ far → ⊥) → IsVertexOf PointSet has_as_point T z
      go (inl e) = inl e
      go (inr n) = inr (beside z n (from.linked R S v sr a w x y z h n))

  -- in any order
  sg : Symmetric (gone (cell R) (cell S))
  sg = without_symmetric (cell R) (cell S) (test_symmetric R) (test_symmetric S)

  -- a cell that v takes from the rest it takes from the small set
  gone_down : (w x y z : Vertex) → gone (cell R) (cell S) w x y z ≡ true → gone (cell T) (cell U) w x y z ≡ true
  gone_down w x y z h =
      and_not (cell T w x y z) (cell U w x y z)
      (base.smaller R T st within w x y z g.0
      (vertex_gone x y z w (sym (first_last (gone (cell R) (cell S)) sg w x y z) ∙ h))
      (vertex_gone w y z x (sym (second_last (gone (cell R) (cell S)) sg w x y z) ∙ h))
      (vertex_gone w x z y (sym (sg.last w x y z) ∙ h))
      (vertex_gone w x y z h))
      (false_if _ λ u. false≢true (sym g.1 ∙ base.union T U R S st t_in_u within u_in_s cover w x y z u g.0))
    where
      g : (cell R w x y z ≡ true) × (cell S w x y z ≡ false)
      g = and_not_from (cell R w x y z) (cell S w x y z) h

      cover : (q : Vertex) → has_as_point S q ≡ true → (has_as_point U q ≡ true) ⊎ (has_as_point R q ≡ true)
      cover q k = go (cases_vertex q v)
        where
          go : (q ≡ v) ⊎ (q ≡ v → ⊥) → (has_as_point U q ≡ true) ⊎ (has_as_point R q ≡ true)
          go (inl e) = inl (ap (has_as_point U) e ∙ b.present)
          go (inr n) = inr (sym (a.same q n) ∙ k)

  -- and these are closed among those that it takes there
  gone_closed : (t1 t2 t3 x y : Vertex) → gone (cell R) (cell S) t1 t2 t3 x ≡ true → gone (cell T) (cell U) t1 t2 t3 y
      ≡ true →
      gone (cell R) (cell S) t1 t2 t3 y ≡ true
  gone_closed t1 t2 t3 x y hx hy = go (cases_vertex y x) (cell S t1 t2 t3 w.beyond) refl
    where
      gx : (cell R t1 t2 t3 x ≡ true) × (cell S t1 t2 t3 x ≡ false)
      gx = and_not_from (cell R t1 t2 t3 x) (cell S t1 t2 t3 x) hx

      ux : (cell T t1 t2 t3 x ≡ true) × (cell U t1 t2 t3 x ≡ false)
      ux = and_not_from (cell T t1 t2 t3 x) (cell U t1 t2 t3 x) (gone_down t1 t2 t3 x hx)

      uy : (cell T t1 t2 t3 y ≡ true) × (cell U t1 t2 t3 y ≡ false)
      uy = and_not_from (cell T t1 t2 t3 y) (cell U t1 t2 t3 y) hy

      w : Across (cell R) t1 t2 t3 x
      w = (complex_of R).laws.across t1 t2 t3 x gx.0

      go : (y ≡ x) ⊎ (y ≡ x → ⊥) → (r : Bool) → cell S t1 t2 t3 w.beyond ≡ r → gone (cell R) (cell S) t1 t2 t3 y ≡ true
      go (inl e) r q = ap (gone (cell R) (cell S) t1 t2 t3) e ∙ hx
      go (inr n) false q =
          let gw = and_not (cell R t1 t2 t3 w.beyond) (cell S t1 t2 t3 w.beyond) w.cell q in
          ap (gone (cell R) (cell S) t1 t2 t3) (across_one (cell T) (complex_of T) t1 t2 t3 y w.beyond x
          uy.0 (and_not_from (cell T t1 t2 t3 w.beyond) (cell U t1 t2 t3 w.beyond) (gone_down t1 t2 t3 w.beyond gw)).0
          ux.0 n w.other) ∙ gw
      go (inr n) true q =
          let new = rim_makes_new (cell R) (cell S) v ins t1 t2 t3
          record {
            kept = w.beyond;
            lost = x;
            kept_before = w.cell;
            kept_after = q;
            lost_before = gx.0;
            lost_after =
                gx.1;
          } in
          let r = new_has_rim (cell T) (cell U) v ins' t1 t2 t3 (star_down t1 t2 t3 new) in
          let e = across_one (cell T) (complex_of T) t1 t2 t3 y r.kept x uy.0 r.kept_before ux.0 n
          (λ f. false≢true (sym ux.1 ∙ ap (cell U t1 t2 t3) (sym f) ∙ r.kept_after)) in
          absurd (false≢true (sym uy.1 ∙ ap (cell U t1 t2 t3) e ∙ r.kept_after))

  -- v takes the same cells from T as from R
  pub removal : (w x y z : Vertex) → gone (cell T) (cell U) w x y z ≡ gone (cell R) (cell S) w x y z
  removal w x y z =
      let m = ins.met in
      same_test (gone (cell T) (cell U) w x y z) (gone (cell R) (cell S) w x y z)
      (region (cell T) (cell U) v ins' (gone (cell R) (cell S)) sg gone_down gone_closed
      m.t1 m.t2 m.t3 m.rim.lost (and_not (cell R m.t1 m.t2 m.t3 m.rim.lost) (cell S m.t1 m.t2 m.t3 m.rim.lost)
      m.rim.lost_before m.rim.lost_after) w x y z)
      (gone_down w x y z)

-- a solid rest shows in the points beside v and across from it
pub solid_near : (R S T : PointSet) (v : Vertex) → IsAdd R v S → solid R ≡ true →
    ((q : Vertex) → q ≢ far → AreLinked (cell S) v q → has_as_point T q ≡ true) →
    ((q : Vertex) → IsOpposite (cell S) v q → has_as_point T q ≡ true) → solid T ≡ true
solid_near R S T v a rest near across =
    start (cases_vertex m.t1 far) (cases_vertex m.t2 far) (cases_vertex m.t3 far) (cases_vertex m.rim.lost far)
  where
    ins : Insertion (cell R) (cell S) v
    ins = from.insertion R S v rest a

    m : HasRim (cell R) (cell S)
    m = ins.met

    c : Vertex → Vertex → Vertex → Vertex → Bool
    c = gone (cell R) (cell S)

    sg : Symmetric (gone (cell R) (cell S))
    sg = without_symmetric (cell R) (cell S) (test_symmetric R) (test_symmetric S)

    mg : gone (cell R) (cell S) m.t1 m.t2 m.t3 m.rim.lost ≡ true
    mg =
        and_not (cell R m.t1 m.t2 m.t3 m.rim.lost) (cell S m.t1 m.t2 m.t3 m.rim.lost) m.rim.lost_before m.rim.lost_after

    in_t : (w x y z : Vertex) → gone (cell R) (cell S) w x y z ≡ true → z ≢ far → has_as_point T z ≡ true
    in_t w x y z h n = near z n (from.linked R S v rest a w x y z h n)

    full : (w x y z : Vertex) → gone (cell R) (cell S) w x y z ≡ true → w ≢ far → x ≢ far → y ≢ far → z ≢ far →
        solid T ≡ true
    full w x y z h i j k l = base.full_solid R T w x y z (and_not_from (cell R w x y z) (cell S w x y z) h).0
        (in_t x y z w (sym (first_last (gone (cell R) (cell S)) sg w x y z) ∙ h) i)
        (in_t w y z x (sym (second_last (gone (cell R) (cell S)) sg w x y z) ∙ h) j)
        (in_t w x z y (sym (sg.last w x y z) ∙ h) k)
        (in_t w x y z h l)

    open_one : (x y z : Vertex) → gone (cell R) (cell S) x y z far ≡ true → solid T ≡ true
    open_one x y z h = go (cell S x y z d.beyond) refl
      where
        g : (cell R x y z far ≡ true) × (cell S x y z far ≡ false)
        g = and_not_from (cell R x y z far) (cell S x y z far) h

        n : (far ≢ z) × (far ≢ y) × (far ≢ x)
        n = last_apart (cell R) (complex_of R) x y z far g.0

        d : Across (cell R) x y z far
        d = (complex_of R).laws.across x y z far g.0

        go : (r : Bool) → cell S x y z d.beyond ≡ r → solid T ≡ true
        go false e =
            full x y z d.beyond (and_not (cell R x y z d.beyond) (cell S x y z d.beyond) d.cell e) (λ f. n.2 (sym f))
            (λ f. n.1 (sym f)) (λ f. n.0 (sym f)) d.other
        go true e = base.full_solid R T x y z d.beyond d.cell
            (in_t y z far x (sym (first_last (gone (cell R) (cell S)) sg x y z far) ∙ h) (λ f. n.2 (sym f)))
            (in_t x z far y (sym (second_last (gone (cell R) (cell S)) sg x y z far) ∙ h) (λ f. n.1 (sym f)))
            (in_t x y far z (sym (sg.last x y z far) ∙ h) (λ f. n.0 (sym f)))
            (across d.beyond record {
              t1 = x;
              t2 = y;
              t3 = z;
              here = rim_makes_new (cell R) (cell S) v ins x y z
                  record {
                    kept = d.beyond;
                    lost = far;
                    kept_before = d.cell;
                    kept_after = e;
                    lost_before = g.0;
                    lost_after = g.1;
                  };
              there = e;
              other = λ f. false≢true (sym (ins.absent x y z) ∙ ap (cell R x y z) (sym f) ∙ d.cell);
              finite = d.other;
            })

    start : (m.t1 ≡ far) ⊎ (m.t1 ≡ far → ⊥) → (m.t2 ≡ far) ⊎ (m.t2 ≡ far → ⊥) → (m.t3 ≡ far) ⊎ (m.t3 ≡ far → ⊥) →
        (m.rim.lost ≡ far) ⊎ (m.rim.lost ≡ far → ⊥) → solid T ≡ true
    start p q r (inl e) = open_one m.t1 m.t2 m.t3 (ap (gone (cell R) (cell S) m.t1 m.t2 m.t3) (sym e) ∙ mg)
    start p q (inl e) (inr l) =
        open_one m.t1 m.t2 m.rim.lost (ap (gone (cell R) (cell S) m.t1 m.t2 m.rim.lost) (sym e)
        ∙ sym (sg.last m.t1 m.t2 m.t3 m.rim.lost) ∙ mg)
    start p (inl e) (inr k) (inr l) =
        open_one m.t1 m.t3 m.rim.lost (ap (gone (cell R) (cell S) m.t1 m.t3 m.rim.lost) (sym e)
        ∙ sym (second_last (gone (cell R) (cell S)) sg m.t1 m.t2 m.t3 m.rim.lost) ∙ mg)
    start (inl e) (inr j) (inr k) (inr l) =
        open_one m.t2 m.t3 m.rim.lost (ap (gone (cell R) (cell S) m.t2 m.t3 m.rim.lost) (sym e)
        ∙ sym (first_last (gone (cell R) (cell S)) sg m.t1 m.t2 m.t3 m.rim.lost) ∙ mg)
    start (inr i) (inr j) (inr k) (inr l) = full m.t1 m.t2 m.t3 m.rim.lost mg i j k l

-- where the rest is flat, v is beside each of its points
pub flat_rest : (R S : PointSet) (v : Vertex) → IsAdd R v S → solid S ≡ true → solid R ≡ false → (e : Vertex) →
    has_as_point R e ≡ true → AreLinked (cell S) v e
flat_rest R S v a s f e h = go (cases_vertex k.t1 v) (cases_vertex k.t2 v) (cases_vertex k.t3 v)
  where
    e_other : e ≢ v
    e_other p = false≢true (sym a.absent ∙ ap (has_as_point R) (sym p) ∙ h)

    k : Corner (cell S) e
    k = base.corner S e s (a.same e e_other ∙ h)

    in_r : (q : Vertex) → q ≢ v → has_as_point S q ≡ true → has_as_point R q ≡ true
    in_r q n p = sym (a.same q n) ∙ p

    go : (k.t1 ≡ v) ⊎ (k.t1 ≡ v → ⊥) → (k.t2 ≡ v) ⊎ (k.t2 ≡ v → ⊥) → (k.t3 ≡ v) ⊎ (k.t3 ≡ v → ⊥) →
        AreLinked (cell S) v e
    go (inl p) b d = record {
      t1 = k.t2;
      t2 = k.t3;
      cell = ap (cell S k.t2 k.t3 e) (sym p)
          ∙ sym (first_last (cell S) (test_symmetric S) k.t1 k.t2 k.t3 e) ∙ k.cell;
    }
    go (inr l) (inl p) d = record {
      t1 = k.t1;
      t2 = k.t3;
      cell = ap (cell S k.t1 k.t3 e) (sym p)
          ∙ sym (second_last (cell S) (test_symmetric S) k.t1 k.t2 k.t3 e) ∙ k.cell;
    }
    go (inr l) (inr m) (inl p) = record {
      t1 = k.t1;
      t2 = k.t2;
      cell = ap (cell S k.t1 k.t2 e) (sym p)
          ∙ sym ((test_symmetric S).last k.t1 k.t2 k.t3 e) ∙ k.cell;
    }
    go (inr l) (inr m) (inr n) =
        absurd (false≢true (sym f ∙ base.full_solid S R k.t1 k.t2 k.t3 e k.cell
        (in_r k.t1 l (base.point S k.t2 k.t3 e k.t1 (sym (first_last (cell S) (test_symmetric S) k.t1 k.t2 k.t3 e)
        ∙ k.cell) k.finite1))
        (in_r k.t2 m (base.point S k.t1 k.t3 e k.t2 (sym (second_last (cell S) (test_symmetric S) k.t1 k.t2 k.t3 e)
        ∙ k.cell) k.finite2))
        (in_r k.t3 n (base.point S k.t1 k.t2 e k.t3 (sym ((test_symmetric S).last k.t1 k.t2 k.t3 e) ∙ k.cell)
        k.finite3))
        h))
