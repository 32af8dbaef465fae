-- Edits whose reaches are apart commute: each answers and reaches the same before and after the other.
use Rattle.std.specs.Prelude.{◌≡◌, Bool, true, false, cond, ◌≢◌, ◌⊎◌, ◌↔◌}
use Rattle.std.proofs.Common.{refl, sym, ap, ◌∙◌, subst, inl, inr, ⊎_elim}
use Rattle.std.proofs.lemmas.Bool.{false≢true}
use Rattle.list_laws.proofs.Cited.{and_not, cond_false, cond_true, false_if}
use Rattle.edit_history.specs.declared.history.Reply.{Reply}
use Rattle.edit_history.specs.declared.history.Reply.TheVariants.{Inserted, Duplicate, Removed, Missing, Flat}
use Rattle.del_laws.specs.Cells.{Vertex, far}
use Rattle.del_laws.specs.Base.{Corner}
use Rattle.del_laws.specs.PointSets.{PointSet, solid, cell, minus, is_point, has_as_point, set_with}
use Rattle.del_laws.proofs.Cited.{base, finite, test_symmetric}
use Rattle.hole_laws.proofs.Tests.{IsAdd, AreLinked, IsAtGone, HasRim, gone}
use Rattle.hole_laws.proofs.Vertices.{cases_vertex, second_last}
use Rattle.hole_laws.proofs.Rims.{last_apart}
use Rattle.hole_laws.proofs.FromBase.{complex_of}
use Rattle.hole_laws.proofs.FromBase as from
use Rattle.hole_laws.proofs.Locality.{linked_at, at_linked, changed as local_changed}
use Rattle.hole_laws.proofs.Removal as removal
use Rattle.hole_laws.proofs.Squares.{At, Rho, Disjoint}
use Rattle.hole_laws.proofs.Squares as sq
use Rattle.hole_laws.proofs.Corners as corners

-- an edit, its point as a vertex
pub data Step : Type 0 where
  add : Vertex → Step
  take : Vertex → Step

-- its point
abbrev pub point_of : Step → Vertex
point_of (add p) = p
point_of (take p) = p

-- whether it adds
pub is_add : Step → Bool
is_add (add p) = true
is_add (take p) = false

-- the set after an edit, and the reply
abbrev pub after : PointSet → Step → PointSet
after S (add p) = cond (has_as_point S p) S (set_with S p)
after S (take p) = cond (has_as_point S p) (cond (solid (minus S p)) (minus S p) S) S

-- and the reply
abbrev pub reply : PointSet → Step → Reply
reply S (add p) = cond (has_as_point S p) Duplicate Inserted
reply S (take p) = cond (has_as_point S p) (cond (solid (minus S p)) Removed Flat) Missing

-- what an edit reaches
abbrev pub Reach : PointSet → Step → Vertex → Type 0
Reach S (add p) q = (q ≡ p) ⊎ (has_as_point S p ≡ false) × IsAtGone (cell S) (cell (set_with S p)) q
Reach S (take p) q = (q ≡ p) ⊎ (has_as_point S p ≡ true) × (q ≢ far) × AreLinked (cell S) p q

-- e changes nothing, by its own point
abbrev pub Idle : PointSet → Step → Type 0
Idle S e = has_as_point S (point_of e) ≡ is_add e

-- e makes T of S
abbrev pub Makes : PointSet → Step → PointSet → Type 0
Makes S (add p) T = IsAdd S p T
Makes S (take p) T = IsAdd T p S × (solid T ≡ true)

-- the reach of an edit that makes T of S, from its lower end
abbrev pub Along : PointSet → Step → PointSet → Vertex → Type 0
Along S (add p) T q = Rho S T p q
Along S (take p) T q = Rho T S p q

-- it would take the last point that makes the set solid
abbrev pub IsFlat : PointSet → Step → Type 0
IsFlat S (add p) = ⊥
IsFlat S (take p) = (has_as_point S p ≡ true) × (solid (minus S p) ≡ false)

-- the reply of an edit that changes the set
abbrev pub made : Step → Reply
made (add p) = Inserted
made (take p) = Removed

-- and of one that is idle
abbrev pub left : Step → Reply
left (add p) = Duplicate
left (take p) = Missing

-- an idle edit leaves the set
pub idle_after : (S : PointSet) (e : Step) → Idle S e → after S e ≡ S
unfolding is_add
idle_after S (add p) h = cond_true (has_as_point S p) S (set_with S p) h
idle_after S (take p) h = cond_false (has_as_point S p) (cond (solid (minus S p)) (minus S p) S) S h

-- its reply
pub idle_reply : (S : PointSet) (e : Step) → Idle S e → reply S e ≡ left e
unfolding is_add
idle_reply S (add p) h = cond_true (has_as_point S p) Duplicate Inserted h
idle_reply S (take p) h = cond_false (has_as_point S p) (cond (solid (minus S p)) Removed Flat) Missing h

-- it reaches its own point alone
pub idle_reach : (S : PointSet) (e : Step) (q : Vertex) → Idle S e → Reach S e q → q ≡ point_of e
unfolding is_add
idle_reach S (add p) q h (inl e) = e
idle_reach S (add p) q h (inr a) = absurd (false≢true (sym a.0 ∙ h))
idle_reach S (take p) q h (inl e) = e
idle_reach S (take p) q h (inr a) = absurd (false≢true (sym h ∙ a.0))

-- every edit reaches its own point
pub own_reach : (S : PointSet) (e : Step) (q : Vertex) → q ≡ point_of e → Reach S e q
own_reach S (add p) q e = inl e
own_reach S (take p) q e = inl e

-- a flat edit leaves the set
pub flat_after : (S : PointSet) (e : Step) → IsFlat S e → after S e ≡ S
flat_after S (add p) h = absurd h
flat_after S (take p) h =
    cond_true (has_as_point S p) (cond (solid (minus S p)) (minus S p) S) S h.0
    ∙ cond_false (solid (minus S p)) (minus S p) S h.1

-- a flat removal reaches everything
pub flat_reach : (S : PointSet) (e : Step) → solid S ≡ true → IsFlat S e → (q : Vertex) →
    has_as_point S q ≡ true → Reach S e q
flat_reach S (add p) s h q k = absurd h
flat_reach S (take p) s h q k = go (cases_vertex q p)
  where
    a : IsAdd (minus S p) p S
    a = corners.minus_adds S p h.0

    go : (q ≡ p) ⊎ (q ≡ p → ⊥) → Reach S (take p) q
    go (inl e) = inl e
    go (inr n) = inr (
      h.0,
      (λ e. false≢true (ap (has_as_point S) (sym e) ∙ k)),
      removal.flat_rest (minus S p) S p a s h.1 q (sym (a.same q n) ∙ k),
    )

-- what a real edit does
pub makes_after : (S : PointSet) (e : Step) (T : PointSet) → Makes S e T → after S e ≡ T
makes_after S (add p) T m = cond_false (has_as_point S p) S (set_with S p) m.absent
    ∙ corners.adds_same S (set_with S p) T p (corners.plus_adds S p (finite T p m.present) m.absent) m
makes_after S (take p) T m = cond_true (has_as_point S p) (cond (solid (minus S p)) (minus S p) S) S m.0.present
    ∙ cond_true (solid (minus S p)) (minus S p) S (ap solid e ∙ m.1) ∙ e
  where
    e : minus S p ≡ T
    e = corners.takes_same (minus S p) T S p (corners.minus_adds S p m.0.present) m.0

-- what it answers
pub makes_reply : (S : PointSet) (e : Step) (T : PointSet) → Makes S e T → reply S e ≡ made e
makes_reply S (add p) T m = cond_false (has_as_point S p) Duplicate Inserted m.absent
makes_reply S (take p) T m = cond_true (has_as_point S p) (cond (solid (minus S p)) Removed Flat) Missing m.0.present
    ∙ cond_true (solid (minus S p)) Removed Flat (ap solid e ∙ m.1)
  where
    e : minus S p ≡ T
    e = corners.takes_same (minus S p) T S p (corners.minus_adds S p m.0.present) m.0

-- and what it reaches, from the end without its point
pub makes_reach : (S : PointSet) (e : Step) (T : PointSet) → Makes S e T → (q : Vertex) → Reach S e q ↔ Along S e T q
makes_reach S (add p) T m q = (there, back)
  where
    e : set_with S p ≡ T
    e = corners.adds_same S (set_with S p) T p (corners.plus_adds S p (finite T p m.present) m.absent) m

    there : Reach S (add p) q → Along S (add p) T q
    there (inl f) = inl f
    there (inr a) = inr (subst (λ (U : PointSet). At S U q) e a.1)

    back : Along S (add p) T q → Reach S (add p) q
    back (inl f) = inl f
    back (inr a) = inr (m.absent, subst (λ (U : PointSet). At S U q) (sym e) a)
makes_reach S (take p) T m q = (there, back)
  where
    there : Reach S (take p) q → Along S (take p) T q
    there (inl f) = inl f
    there (inr a) = inr (linked_at T S p m.1 m.0 q a.1 a.2)

    back : Along S (take p) T q → Reach S (take p) q
    back (inl f) = inl f
    back (inr a) = inr (m.0.present, a.finite, at_linked T S p m.1 m.0 q a)

-- it is not idle
pub makes_busy : (S : PointSet) (e : Step) (T : PointSet) → Makes S e T → Idle S e → ⊥
unfolding is_add
makes_busy S (add p) T m i = false≢true (sym m.absent ∙ i)
makes_busy S (take p) T m i = false≢true (sym i ∙ m.0.present)

-- and the set stays solid
pub makes_solid : (S : PointSet) (e : Step) (T : PointSet) → solid S ≡ true → Makes S e T → solid T ≡ true
makes_solid S (add p) T s m = from.solid_add S T p s m
makes_solid S (take p) T s m = m.1

-- an edit is idle, or flat, or changes the set
pub data Kind (S : PointSet) (e : Step) : Type 0 where
  idle : Idle S e → Kind S e
  flat : IsFlat S e → Kind S e
  real : Makes S e (after S e) → Kind S e

-- of which kind an edit is
pub kind : (S : PointSet) (e : Step) → is_point (point_of e) ≡ true → Kind S e
unfolding is_add
kind S (add p) n = go (has_as_point S p) refl
  where
    go : (b : Bool) → has_as_point S p ≡ b → Kind S (add p)
    go true e = idle e
    go false e =
        real (subst (λ (U : PointSet). IsAdd S p U) (sym (cond_false (has_as_point S p) S (set_with S p) e))
        (corners.plus_adds S p n e))
kind S (take p) n = go (has_as_point S p) (solid (minus S p)) refl refl
  where
    go : (b c : Bool) → has_as_point S p ≡ b → solid (minus S p) ≡ c → Kind S (take p)
    go false c e f = idle e
    go true false e f = flat (e, f)
    go true true e f =
        let m = makes_after S (take p) (minus S p) (corners.minus_adds S p e, f) in
        real (subst (λ (U : PointSet). IsAdd U p S) (sym m) (corners.minus_adds S p e), ap solid m ∙ f)

-- an edit changes no other point
pub others : (S : PointSet) (e : Step) (q : Vertex) → is_point (point_of e) ≡ true → q ≢ point_of e →
    has_as_point (after S e) q ≡ has_as_point S q
others S e q n m = go e (kind S e n) m
  where
    go : (e : Step) → Kind S e → q ≢ point_of e → has_as_point (after S e) q ≡ has_as_point S q
    go e (idle h) m = ap (λ (U : PointSet). has_as_point U q) (idle_after S e h)
    go e (flat h) m = ap (λ (U : PointSet). has_as_point U q) (flat_after S e h)
    go (add p) (real h) m = h.same q m
    go (take p) (real h) m = sym (h.0.same q m)

-- what is not idle reaches a point of the set
pub touches : (S : PointSet) (e : Step) → solid S ≡ true → is_point (point_of e) ≡ true → (Idle S e → ⊥) →
    (q : Vertex) × (has_as_point S q ≡ true) × Reach S e q
unfolding is_add
touches S (take p) s n i = (p, yes_has (has_as_point S p) i, inl refl)
  where
    yes_has : (b : Bool) → (b ≡ false → ⊥) → b ≡ true
    yes_has true h = refl
    yes_has false h = absurd (h refl)
touches S (add p) s n i =
    ⊎_elim (λ k. (
      m.t3,
      base.point S m.t1 m.t2 m.rim.lost m.t3 (sym ((test_symmetric S).last m.t1 m.t2 m.t3 m.rim.lost)
          ∙ m.rim.lost_before) k,
      inr (f, sq.at_third S (set_with S p) m.t1 m.t2 m.t3 m.rim.lost g k),
    ))
    (λ k. (
      m.t2,
      base.point S m.t1 m.t3 m.rim.lost m.t2 (sym (second_last (cell S) (test_symmetric S) m.t1 m.t2 m.t3 m.rim.lost)
          ∙ m.rim.lost_before) k,
      inr (f, sq.at_second S (set_with S p) m.t1 m.t2 m.t3 m.rim.lost g k),
    ))
    (sq.facet_point S m.t1 m.t2 m.t3 m.rim.lost m.rim.lost_before)
  where
    f : has_as_point S p ≡ false
    f = false_if (has_as_point S p) i

    m : HasRim (cell S) (cell (set_with S p))
    m = from.rim S (set_with S p) p s (corners.plus_adds S p n f)

    g : gone (cell S) (cell (set_with S p)) m.t1 m.t2 m.t3 m.rim.lost ≡ true
    g =
        and_not (cell S m.t1 m.t2 m.t3 m.rim.lost) (cell (set_with S p) m.t1 m.t2 m.t3 m.rim.lost) m.rim.lost_before
        m.rim.lost_after

-- a real edit reaches a point of the set that it makes
pub stays : (S : PointSet) (e : Step) (T : PointSet) → solid S ≡ true → Makes S e T →
    (q : Vertex) × (has_as_point T q ≡ true)
    × Reach S e q
stays S (add p) T s m = (p, m.present, inl refl)
stays S (take p) T s m = (
  k.t3,
  sym (m.0.same k.t3 n) ∙ base.point S k.t1 k.t2 p k.t3 (sym ((test_symmetric S).last k.t1 k.t2 k.t3 p) ∙ k.cell)
      k.finite3,
  inr (m.0.present, k.finite3, record { t1 = k.t1; t2 = k.t2; cell = k.cell }),
)
  where
    k : Corner (cell S) p
    k = base.corner S p s m.0.present

    n : k.t3 ≢ p
    n e = (last_apart (cell S) (complex_of S) k.t1 k.t2 k.t3 p k.cell).0 (sym e)

-- the two edits in the other order, along a square
pub record Turned (S : PointSet) (e d : Step) (S1 S2 : PointSet) : Type 0 where
  pub by : PointSet
  pub first : Makes S d by
  pub second : Makes by e S2
  pub reach_d : (q : Vertex) → Along S d by q ↔ Along S1 d S2 q
  pub reach_e : (q : Vertex) → Along by e S2 q ↔ Along S e S1 q

-- what is reached along opposite sides
rho_both : (S T U V : PointSet) (x q : Vertex) → At S T q ↔ At U V q → Rho S T x q ↔ Rho U V x q
rho_both S T U V x q f = (corners.rho_along S T U V x q f.0, corners.rho_along U V S T x q f.1)

-- the other way round
flip : {A B : Type 0} → A ↔ B → B ↔ A
flip f = (f.1, f.0)

-- the other order of the two, for each way around the square
pub turn : (S : PointSet) (e d : Step) (S1 S2 : PointSet) → solid S ≡ true → point_of e ≢ point_of d → Makes S e S1 →
    Makes S1 d S2 →
    Disjoint (Along S e S1) (Along S1 d S2) → Turned S e d S1 S2
turn R (add x) (add y) A T s n ra at d =
    record {
      by = B;
      first = rb;
      second = bt;
      reach_d = λ q. rho_both R B A T y q (a.by_y q);
      reach_e = λ q. rho_both B T R A x q (flip (a.by_x q));
    }
  where
    B : PointSet
    B = set_with R y

    rb : IsAdd R y B
    rb = corners.plus_adds R y (finite T y at.present) (sym (ra.same y (λ e. n (sym e))) ∙ at.absent)

    bt : IsAdd B x T
    bt = corners.upper R A B T x y n ra rb at

    a : corners.Agree R A B T
    a = corners.agree_up R A B T x y record { ra = ra; rb = rb; at = at; bt = bt } s d
turn A (take x) (add y) R B s n m rb d =
    record {
      by = T;
      first = at;
      second = (bt, from.solid_add R B y m.1 rb);
      reach_d = λ q. rho_both A T R B y q (flip (a.by_y q));
      reach_e = λ q. rho_both B T R A x q (flip (a.by_x q));
    }
  where
    T : PointSet
    T = set_with A y

    at : IsAdd A y T
    at = corners.plus_adds A y (finite B y rb.present) (m.0.same y (λ e. n (sym e)) ∙ rb.absent)

    bt : IsAdd B x T
    bt = corners.upper R A B T x y n m.0 rb at

    a : corners.Agree R A B T
    a = corners.agree_low R A B T x y record { ra = m.0; rb = rb; at = at; bt = bt } m.1 d
turn T (take x) (take y) B R s n m k d =
    record {
      by = A;
      first = (at, from.solid_add R A x k.1 ra);
      second = (ra, k.1);
      reach_d = λ q. rho_both A T R B y q (flip (a.by_y q));
      reach_e = λ q. rho_both R A B T x q (a.by_x q);
    }
  where
    A : PointSet
    A = minus T y

    at : IsAdd A y T
    at = corners.minus_adds T y (m.0.same y (λ e. n (sym e)) ∙ k.0.present)

    ra : IsAdd R x A
    ra = corners.lower R A B T x y n k.0 m.0 at

    a : corners.Agree R A B T
    a = corners.agree_turned R A B T
        (corners.agree_up R B A T y x record { ra = k.0; rb = ra; at = m.0; bt = at } k.1 (λ q f g. d q g f))
turn B (add x) (take y) T A s n bt m d =
    record {
      by = R;
      first = (rb, a.smaller);
      second = ra;
      reach_d = λ q. rho_both R B A T y q (a.by_y q);
      reach_e = λ q. rho_both R A B T x q (a.by_x q);
    }
  where
    R : PointSet
    R = minus B y

    rb : IsAdd R y B
    rb = corners.minus_adds B y (sym (bt.same y (λ e. n (sym e))) ∙ m.0.present)

    ra : IsAdd R x A
    ra = corners.lower R A B T x y n rb bt m.0

    a : corners.Agree R A B T
    a = corners.agree_across R A B T x y record { ra = ra; rb = rb; at = m.0; bt = bt } m.1 s d

-- a point of a cell that the edit changes is in its reach
pub locality : (S : PointSet) (e : Step) (w x y z : Vertex) → solid S ≡ true → is_point (point_of e) ≡ true →
    cell S w x y z ≢ cell (after S e) w x y z → z ≢ far → Reach S e z
locality S e w x y z s n differs f = go e (kind S e n) differs
  where
    go : (e : Step) → Kind S e → cell S w x y z ≢ cell (after S e) w x y z → Reach S e z
    go e (idle i) d = absurd (d (ap (λ (T : PointSet). cell T w x y z) (sym (idle_after S e i))))
    go e (flat i) d = absurd (d (ap (λ (T : PointSet). cell T w x y z) (sym (flat_after S e i))))
    go (add p) (real m) d =
        (makes_reach S (add p) (after S (add p)) m z).1 (local_changed S (after S (add p)) p s m w x y z d f)
    go (take p) (real m) d = (makes_reach S (take p) (after S (take p)) m z).1
        (local_changed (after S (take p)) S p m.1 m.0 w x y z (λ q. d (sym q)) f)
