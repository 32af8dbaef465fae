-- Edits that may move a point, as steps one after another. Those whose reaches are apart commute.
use Rattle.std.specs.Prelude.{◌≡◌, Bool, true, false, cond, ◌≢◌, ◌⊎◌, ◌↔◌}
use Rattle.std.proofs.Common.{refl, sym, ap, ◌∙◌, subst, inl, inr}
use Rattle.std.proofs.lemmas.Bool.{false≢true}
use Rattle.list_laws.proofs.Cited.{cond_false, cond_true}
use Rattle.edit_history.specs.declared.history.Reply.{Reply}
use Rattle.edit_history.specs.declared.history.Reply.TheVariants.{Missing, Flat, Moved, Occupied}
use Rattle.del_laws.specs.Cells.{Vertex, far}
use Rattle.del_laws.specs.PointSets.{PointSet, solid, cell, minus, is_point, has_as_point, set_with}
use Rattle.del_laws.proofs.Cited.{finite}
use Rattle.hole_laws.proofs.Tests.{IsAdd, AreLinked, IsAtGone}
use Rattle.hole_laws.proofs.Vertices.{cases_vertex}
use Rattle.hole_laws.proofs.FromBase as from
use Rattle.hole_laws.proofs.Squares.{Disjoint}
use Rattle.hole_laws.proofs.Corners as corners
use Rattle.hole_laws.proofs.Commute.{Step, add, take}
use Rattle.hole_laws.proofs.Commute as one

-- an edit: a step, or a point that moves
pub data Change : Type 0 where
  step : Step → Change
  move : Vertex → Vertex → Change

-- its own points
abbrev pub Own : Change → Vertex → Type 0
Own (step e) q = q ≡ one.point_of e
Own (move a b) q = (q ≡ a) ⊎ (q ≡ b)

-- they are points
abbrev pub ArePoints : Change → Type 0
ArePoints (step e) = is_point (one.point_of e) ≡ true
ArePoints (move a b) = (is_point a ≡ true) × (is_point b ≡ true)

-- the set after an edit, and the reply
abbrev pub after : PointSet → Change → PointSet
after S (step e) = one.after S e
after S (move a b) = cond (has_as_point S a)
    (cond (has_as_point S b) S (cond (solid (minus (set_with S b) a)) (minus (set_with S b) a) S)) S

-- the reply to it
abbrev pub reply : PointSet → Change → Reply
reply S (step e) = one.reply S e
reply S (move a b) = cond (has_as_point S a)
    (cond (has_as_point S b) Occupied (cond (solid (minus (set_with S b) a)) Moved Flat)) Missing

-- what an edit reaches
abbrev pub Reach : PointSet → Change → Vertex → Type 0
Reach S (step e) q = one.Reach S e q
Reach S (move a b) q =
    (q ≡ a) ⊎ (q ≡ b)
    ⊎ (has_as_point S a ≡ true) × (has_as_point S b ≡ false) × (IsAtGone (cell S) (cell (set_with S b)) q ⊎ (q ≢ far) ×
    AreLinked (cell (set_with S b)) a q)

-- both orders do the same
pub record Commutes (S : PointSet) (e d : Change) : Type 0 where
  pub same : after (after S d) e ≡ after (after S e) d
  pub reply_d : reply S d ≡ reply (after S e) d
  pub reply_e : reply (after S d) e ≡ reply S e
  pub reach_d : (q : Vertex) → Reach S d q ↔ Reach (after S e) d q
  pub reach_e : (q : Vertex) → Reach (after S d) e q ↔ Reach S e q

-- every edit reaches its own points
own_reach : (S : PointSet) (c : Change) (q : Vertex) → Own c q → Reach S c q
own_reach S (step e) q o = one.own_reach S e q o
own_reach S (move a b) q (inl o) = inl o
own_reach S (move a b) q (inr o) = inr (inl o)

-- ---- steps one after another

-- some steps, one after another
data Plan : Type 0 where
  last : Step → Plan
  then : Step → Plan → Plan

-- the steps of an edit
abbrev steps : Change → Plan
steps (step e) = last e
steps (move a b) = then (add b) (last (take a))

-- its points differ
abbrev IsProper : Change → Type 0
IsProper (step e) = Unit {0}
IsProper (move a b) = a ≢ b

-- each step changes the set, and they make T of S
abbrev Path : PointSet → Plan → PointSet → Type 0
Path S (last e) T = one.Makes S e T
Path S (then e es) T = (M : PointSet) × one.Makes S e M × Path M es T

-- what some step reaches
abbrev Reached : (S : PointSet) (es : Plan) (T : PointSet) → Path S es T → Vertex → Type 0
Reached S (last e) T p q = one.Along S e T q
Reached S (then e es) T p q = one.Along S e p.0 q ⊎ Reached p.0 es T p.2 q

-- where the first set is solid the last is
path_solid : (S : PointSet) (es : Plan) (T : PointSet) → solid S ≡ true → Path S es T → solid T ≡ true
path_solid S (last e) T s p = one.makes_solid S e T s p
path_solid S (then e es) T s p = path_solid p.0 es T (one.makes_solid S e p.0 s p.1) p.2

-- a step reaches its own point
own_along : (S : PointSet) (e : Step) (T : PointSet) → one.Along S e T (one.point_of e)
own_along S (add p) T = inl refl
own_along S (take p) T = inl refl

-- two steps, the second of which comes first now
turned : (S : PointSet) (e d : Step) (S1 S2 : PointSet) → solid S ≡ true → (m : one.Makes S e S1) →
    (n : one.Makes S1 d S2) →
    Disjoint (one.Along S e S1) (one.Along S1 d S2) → one.Turned S e d S1 S2
turned S e d S1 S2 s m n apart =
    one.turn S e d S1 S2 s (λ f. apart (one.point_of e) (own_along S e S1)
    (subst (λ (q : Vertex). one.Along S1 d S2 q) (sym f) (own_along S1 d S2))) m n apart

-- a step behind some steps
record Past (S : PointSet) (e : Step) (S1 : PointSet) (ds : Plan) (S2 : PointSet) (p : Path S1 ds S2) : Type 0 where
  by : PointSet
  path : Path S ds by
  final : one.Makes by e S2
  reach_e : (q : Vertex) → one.Along by e S2 q ↔ one.Along S e S1 q
  reach_ds : (q : Vertex) → Reached S ds by path q ↔ Reached S1 ds S2 p q

-- a step that comes behind some steps can come before them, where their reaches are apart
past : (S : PointSet) (e : Step) (S1 : PointSet) (ds : Plan) (S2 : PointSet) → solid S ≡ true → one.Makes S e S1 →
    (p : Path S1 ds S2) →
    Disjoint (one.Along S e S1) (Reached S1 ds S2 p) → Past S e S1 ds S2 p
past S e S1 (last d) S2 s m p apart =
    let t = turned S e d S1 S2 s m p apart in
    record { by = t.by; path = t.first; final = t.second; reach_e = t.reach_e; reach_ds = t.reach_d }
past S e S1 (then d ds) S2 s m p apart =
    let t = turned S e d S1 p.0 s m p.1 (λ q a b. apart q a (inl b)) in
    let r = past t.by e p.0 ds S2 (one.makes_solid S d t.by s t.first) t.second p.2
    (λ q a b. apart q ((t.reach_e q).0 a) (inr b)) in
    record {
      by = r.by;
      path = (t.by, t.first, r.path);
      final = r.final;
      reach_e = λ q. (λ a. (t.reach_e q).0 ((r.reach_e q).0 a), λ a. (r.reach_e q).1 ((t.reach_e q).1 a));
      reach_ds = λ q. (
        λ x. elim x [ inl a ↦ inl ((t.reach_d q).0 a) | inr b ↦ inr ((r.reach_ds q).0 b) ],
        λ x. elim x [ inl a ↦ inl ((t.reach_d q).1 a) | inr b ↦ inr ((r.reach_ds q).1 b) ],
      );
    }

-- some steps behind some others
record Swapped (S : PointSet) (es : Plan) (S1 : PointSet) (ds : Plan) (S2 : PointSet) (p : Path S es S1)
    (r : Path S1 ds S2) : Type 0 where
  by : PointSet
  first : Path S ds by
  second : Path by es S2
  reach_ds : (q : Vertex) → Reached S ds by first q ↔ Reached S1 ds S2 r q
  reach_es : (q : Vertex) → Reached by es S2 second q ↔ Reached S es S1 p q

-- so can some steps that come behind some others
swap : (S : PointSet) (es : Plan) (S1 : PointSet) (ds : Plan) (S2 : PointSet) → solid S ≡ true → (p : Path S es S1) →
    (r : Path S1 ds S2) →
    Disjoint (Reached S es S1 p) (Reached S1 ds S2 r) → Swapped S es S1 ds S2 p r
swap S (last e) S1 ds S2 s p r apart =
    let x = past S e S1 ds S2 s p r apart in
    record { by = x.by; first = x.path; second = x.final; reach_ds = x.reach_ds; reach_es = x.reach_e }
swap S (then e es) S1 ds S2 s p r apart =
    let x = swap p.0 es S1 ds S2 (one.makes_solid S e p.0 s p.1) p.2 r (λ q a b. apart q (inr a) b) in
    let y = past S e p.0 ds x.by s p.1 x.first (λ q a b. apart q (inl a) ((x.reach_ds q).0 b)) in
    record {
      by = y.by;
      first = y.path;
      second = (x.by, y.final, x.second);
      reach_ds = λ q. (λ a. (x.reach_ds q).0 ((y.reach_ds q).0 a), λ a. (y.reach_ds q).1 ((x.reach_ds q).1 a));
      reach_es = λ q. (
        λ z. elim z [ inl a ↦ inl ((y.reach_e q).0 a) | inr b ↦ inr ((x.reach_es q).0 b) ],
        λ z. elim z [ inl a ↦ inl ((y.reach_e q).1 a) | inr b ↦ inr ((x.reach_es q).1 b) ],
      );
    }

-- ---- a move that is made

module _ (S : PointSet) (a b : Vertex) (T : PointSet) (n : a ≢ b) (p : Path S (steps (move a b)) T) where
  -- the point was there
  had : has_as_point S a ≡ true
  had = sym (p.1.same a n) ∙ p.2.0.present

  -- the set in between is that with the new place
  middle : set_with S b ≡ p.0
  middle = corners.adds_same S (set_with S b) p.0 b (corners.plus_adds S b (finite p.0 b p.1.present) p.1.absent) p.1

  -- the last is that without the old one
  ends : minus (set_with S b) a ≡ T
  ends = ap (λ (U : PointSet). minus U a) middle ∙ corners.takes_same (minus p.0 a) T p.0 a
      (corners.minus_adds p.0 a p.2.0.present) p.2.0

  -- so it is the set after the move
  move_after : after S (move a b) ≡ T
  move_after = cond_true (has_as_point S a)
      (cond (has_as_point S b) S (cond (solid (minus (set_with S b) a)) (minus (set_with S b) a) S)) S had
      ∙ cond_false (has_as_point S b) S (cond (solid (minus (set_with S b) a)) (minus (set_with S b) a) S) p.1.absent
      ∙ cond_true (solid (minus (set_with S b) a)) (minus (set_with S b) a) S (ap solid ends ∙ p.2.1)
      ∙ ends

  -- and the reply is Moved
  move_reply : reply S (move a b) ≡ Moved
  move_reply = cond_true (has_as_point S a)
      (cond (has_as_point S b) Occupied (cond (solid (minus (set_with S b) a)) Moved Flat)) Missing had
      ∙ cond_false (has_as_point S b) Occupied (cond (solid (minus (set_with S b) a)) Moved Flat) p.1.absent
      ∙ cond_true (solid (minus (set_with S b) a)) Moved Flat (ap solid ends ∙ p.2.1)

  -- the move reaches what its two steps reach
  move_reach : (q : Vertex) → Reach S (move a b) q ↔ Reached S (steps (move a b)) T p q
  move_reach q = (there, back)
    where
      added : one.Reach S (add b) q ↔ one.Along S (add b) p.0 q
      added = one.makes_reach S (add b) p.0 p.1 q

      taken : one.Reach p.0 (take a) q ↔ one.Along p.0 (take a) T q
      taken = one.makes_reach p.0 (take a) T p.2 q

      there : Reach S (move a b) q → Reached S (steps (move a b)) T p q
      there (inl e) = inr (taken.0 (inl e))
      there (inr (inl e)) = inl (added.0 (inl e))
      there (inr (inr x)) = elim x.2 [
        | inl g ↦ inl (added.0 (inr (x.1, g)))
        | inr l ↦ inr (taken.0 (inr (p.2.0.present, l.0, subst (λ (U : PointSet). AreLinked (cell U) a q) middle l.1)))
      ]

      back : Reached S (steps (move a b)) T p q → Reach S (move a b) q
      back (inl x) = elim (added.1 x) [ inl e ↦ inr (inl e) | inr g ↦ inr (inr (had, p.1.absent, inl g.1)) ]
      back (inr x) = elim (taken.1 x) [
        | inl e ↦ inl e
        | inr l ↦ inr
            (inr (had, p.1.absent, inr (l.1, subst (λ (U : PointSet). AreLinked (cell U) a q) (sym middle) l.2)))
      ]

-- ---- an edit that is made

-- its reply
abbrev done : Change → Reply
done (step e) = one.made e
done (move a b) = Moved

-- the set after an edit that is made is the one that its steps make
real_after : (S : PointSet) (c : Change) (T : PointSet) → IsProper c → Path S (steps c) T → after S c ≡ T
real_after S (step e) T n p = one.makes_after S e T p
real_after S (move a b) T n p = move_after S a b T n p

-- its reply is that it was made
real_reply : (S : PointSet) (c : Change) (T : PointSet) → IsProper c → Path S (steps c) T → reply S c ≡ done c
real_reply S (step e) T n p = one.makes_reply S e T p
real_reply S (move a b) T n p = move_reply S a b T n p

-- and it reaches what its steps reach
real_reach : (S : PointSet) (c : Change) (T : PointSet) → IsProper c → (p : Path S (steps c) T) → (q : Vertex) →
    Reach S c q ↔ Reached S (steps c) T p q
real_reach S (step e) T n p q = one.makes_reach S e T p q
real_reach S (move a b) T n p q = move_reach S a b T n p q

-- it reaches a point that was there
real_touches : (S : PointSet) (c : Change) (T : PointSet) → solid S ≡ true → ArePoints c → IsProper c →
    Path S (steps c) T → (q : Vertex) × (has_as_point S q ≡ true) × Reach S c q
real_touches S (step e) T s k n p = one.touches S e s k (one.makes_busy S e T p)
real_touches S (move a b) T s k n p = (a, had S a b T n p, inl refl)

-- and one that is there then
real_stays : (S : PointSet) (c : Change) (T : PointSet) → solid S ≡ true → IsProper c → Path S (steps c) T →
    (q : Vertex) × (has_as_point T q ≡ true) × Reach S c q
real_stays S (step e) T s n p = one.stays S e T s p
real_stays S (move a b) T s n p = (b, sym (p.2.0.same b (λ e. n (sym e))) ∙ p.1.present, inr (inl refl))

-- ---- the kinds of edits

-- the sets have the same of the own points of an edit
abbrev Agree : Change → PointSet → PointSet → Type 0
Agree c S T = (q : Vertex) → Own c q → has_as_point T q ≡ has_as_point S q

-- it changes nothing, by its own points
record IsIdle (S : PointSet) (c : Change) : Type 0 where
  after : (T : PointSet) → Agree c S T → after T c ≡ T
  reply : (T : PointSet) → Agree c S T → reply T c ≡ reply S c
  reach : (T : PointSet) → Agree c S T → (q : Vertex) → Reach T c q → Own c q

-- it changes nothing, since the set would not be solid, and reaches all of the set
record IsFlat (S : PointSet) (c : Change) : Type 0 where
  after : after S c ≡ S
  reach : (q : Vertex) → has_as_point S q ≡ true → Reach S c q
  some : Vertex
  there : has_as_point S some ≡ true

-- an edit changes nothing by its own points, or since the rest is flat, or is made by its steps
data Kind (S : PointSet) (c : Change) : Type 0 where
  idle : IsIdle S c → Kind S c
  flat : IsFlat S c → Kind S c
  real : IsProper c → Path S (steps c) (after S c) → Kind S c

-- a step that changes nothing
idle_step : (S : PointSet) (e : Step) → one.Idle S e → IsIdle S (step e)
idle_step S e i = record {
  after = λ T g. one.idle_after T e (g (one.point_of e) refl ∙ i);
  reply = λ T g. one.idle_reply T e (g (one.point_of e) refl ∙ i) ∙ sym (one.idle_reply S e i);
  reach = λ T g q r. one.idle_reach T e q (g (one.point_of e) refl ∙ i) r;
}

-- so does a step that would leave a flat set
flat_step : (S : PointSet) (e : Step) → solid S ≡ true → one.IsFlat S e → IsFlat S (step e)
flat_step S (add p) s f = absurd f
flat_step S (take p) s f = record {
  after = one.flat_after S (take p) f;
  reach = one.flat_reach S (take p) s f;
  some =
      p;
  there = f.0;
}

-- a move of a point that is not there
missing_move : (S : PointSet) (a b : Vertex) → has_as_point S a ≡ false → IsIdle S (move a b)
missing_move S a b f = record {
  after = λ T g. cond_false (has_as_point T a)
      (cond (has_as_point T b) T (cond (solid (minus (set_with T b) a)) (minus (set_with T b) a) T)) T
      (lacks T g);
  reply = λ T g. answer T (lacks T g) ∙ sym (answer S f);
  reach = λ T g q r. elim r [
    | inl e ↦ inl e
    | inr x ↦ elim x [
      | inl e ↦ inr e
      | inr y ↦ absurd
          (false≢true (sym (lacks T g) ∙ y.0))
    ]
  ];
}
  where
    lacks : (T : PointSet) → Agree (move a b) S T → has_as_point T a ≡ false
    lacks T g = g a (inl refl) ∙ f

    answer : (T : PointSet) → has_as_point T a ≡ false → reply T (move a b) ≡ Missing
    answer T e = cond_false (has_as_point T a)
        (cond (has_as_point T b) Occupied (cond (solid (minus (set_with T b) a)) Moved Flat)) Missing e

-- a move to a place where a point is
occupied_move : (S : PointSet) (a b : Vertex) → has_as_point S a ≡ true → has_as_point S b ≡ true → IsIdle S (move a b)
occupied_move S a b f h = record {
  after = λ T g. cond_true (has_as_point T a)
      (cond (has_as_point T b) T (cond (solid (minus (set_with T b) a)) (minus (set_with T b) a) T)) T
      (g a (inl refl) ∙ f)
      ∙ cond_true (has_as_point T b) T (cond (solid (minus (set_with T b) a)) (minus (set_with T b) a) T) (there T g);
  reply = λ T g. answer T (g a (inl refl) ∙ f) (there T g) ∙ sym (answer S f h);
  reach = λ T g q r. elim r [
    | inl e ↦ inl e
    | inr x ↦ elim x [
      | inl e ↦ inr e
      | inr y ↦ absurd
          (false≢true (sym y.1 ∙ there T g))
    ]
  ];
}
  where
    there : (T : PointSet) → Agree (move a b) S T → has_as_point T b ≡ true
    there T g = g b (inr refl) ∙ h

    answer : (T : PointSet) → has_as_point T a ≡ true → has_as_point T b ≡ true → reply T (move a b) ≡ Occupied
    answer T e k = cond_true (has_as_point T a)
        (cond (has_as_point T b) Occupied (cond (solid (minus (set_with T b) a)) Moved Flat)) Missing
        e
        ∙ cond_true (has_as_point T b) Occupied (cond (solid (minus (set_with T b) a)) Moved Flat) k

module _ (S : PointSet) (a b : Vertex) (s : solid S ≡ true) (kb : is_point b ≡ true) (f : has_as_point S a ≡ true)
    (h : has_as_point S b ≡ false) where
  -- the two places differ
  differ : a ≢ b
  differ e = false≢true (sym h ∙ ap (has_as_point S) (sym e) ∙ f)

  -- the new place is added
  adds : IsAdd S b (set_with S b)
  adds = corners.plus_adds S b kb h

  -- and all others stay
  kept : (q : Vertex) → has_as_point S q ≡ true → has_as_point (set_with S b) q ≡ true
  kept q k = elim (cases_vertex q b) [
    | inl e ↦ ap (has_as_point (set_with S b)) e
        ∙ adds.present
    | inr n ↦ adds.same q n ∙ k
  ]

  -- a flat move
  flat_move : solid (minus (set_with S b) a) ≡ false → IsFlat S (move a b)
  flat_move u = record {
    after = cond_true (has_as_point S a)
        (cond (has_as_point S b) S (cond (solid (minus (set_with S b) a)) (minus (set_with S b) a) S)) S f
        ∙ cond_false (has_as_point S b) S (cond (solid (minus (set_with S b) a)) (minus (set_with S b) a) S) h
        ∙ cond_false (solid (minus (set_with S b) a)) (minus (set_with S b) a) S u;
    reach = λ q k. elim (one.flat_reach (set_with S b) (take a) (from.solid_add S (set_with S b) b s adds)
        (kept a f, u) q
        (kept q k)) [
          | inl e ↦ inl e
          | inr l ↦ inr (inr (f, h, inr (l.1, l.2)))
        ];
    some = a;
    there = f;
  }

  -- a move that is made
  real_move : solid (minus (set_with S b) a) ≡ true → Path S (steps (move a b)) (after S (move a b))
  real_move u = subst (λ (U : PointSet). Path S (steps (move a b)) U)
      (sym (cond_true (has_as_point S a)
      (cond (has_as_point S b) S (cond (solid (minus (set_with S b) a)) (minus (set_with S b) a) S)) S f
      ∙ cond_false (has_as_point S b) S (cond (solid (minus (set_with S b) a)) (minus (set_with S b) a) S) h
      ∙ cond_true (solid (minus (set_with S b) a)) (minus (set_with S b) a) S u))
      (set_with S b, adds, (corners.minus_adds (set_with S b) a (kept a f), u))

-- of which kind an edit is
kind : (S : PointSet) (c : Change) → solid S ≡ true → ArePoints c → Kind S c
kind S (step e) s k = by (one.kind S e k)
  where
    by : one.Kind S e → Kind S (step e)
    by (one.idle i) = idle (idle_step S e i)
    by (one.flat f) = flat (flat_step S e s f)
    by (one.real m) = real tt m
kind S (move a b) s k = by (has_as_point S a) (has_as_point S b) (solid (minus (set_with S b) a)) refl refl refl
  where
    by : (x y z : Bool) → has_as_point S a ≡ x → has_as_point S b ≡ y → solid (minus (set_with S b) a) ≡ z →
        Kind S (move a b)
    by false y z f h g = idle (missing_move S a b f)
    by true true z f h g = idle (occupied_move S a b f h)
    by true false false f h g = flat (flat_move S a b s k.1 f h g)
    by true false true f h g = real (differ S a b s k.1 f h) (real_move S a b s k.1 f h g)

-- ---- two edits

-- an edit changes no other point
others : (S : PointSet) (c : Change) (q : Vertex) → solid S ≡ true → ArePoints c → (Own c q → ⊥) →
    has_as_point (after S c) q ≡ has_as_point S q
others S (step e) q s k free = one.others S e q k free
others S (move a b) q s k free = by (kind S (move a b) s k)
  where
    by : Kind S (move a b) → has_as_point (after S (move a b)) q ≡ has_as_point S q
    by (idle i) = ap (λ (U : PointSet). has_as_point U q) (i.after S (λ r o. refl))
    by (flat f) = ap (λ (U : PointSet). has_as_point U q) f.after
    by (real n p) = sym (p.2.0.same q (λ e. free (inl e))) ∙ p.1.same q (λ e. free (inr e))

-- a solid set stays solid
pub solid_after : (S : PointSet) (c : Change) → solid S ≡ true → ArePoints c → solid (after S c) ≡ true
solid_after S c s k = by (kind S c s k)
  where
    by : Kind S c → solid (after S c) ≡ true
    by (idle i) = ap solid (i.after S (λ r o. refl)) ∙ s
    by (flat f) = ap solid f.after ∙ s
    by (real n p) = path_solid S (steps c) (after S c) s p

module _ (S : PointSet) (e d : Change) (s : solid S ≡ true) (ke : ArePoints e) (kd : ArePoints d)
    (apart : Disjoint (Reach S e) (Reach (after S e) d)) where
  -- where the first changes nothing
  idle_first : IsIdle S e → Commutes S e d
  idle_first i = record {
    same = i.after (after S d) agree ∙ ap (λ (U : PointSet). after U d) (sym p);
    reply_d = ap (λ (U : PointSet). reply U d) (sym p);
    reply_e = i.reply (after S d) agree;
    reach_d = λ x. (subst (λ (U : PointSet). Reach U d x) (sym p), subst (λ (U : PointSet). Reach U d x) p);
    reach_e = λ x. (
      λ h. own_reach S e x (i.reach (after S d) agree x h),
      λ h. own_reach (after S d) e x (i.reach S (λ r o. refl) x h),
    );
  }
    where
      p : after S e ≡ S
      p = i.after S (λ r o. refl)

      agree : Agree e S (after S d)
      agree q o = others S d q s kd (λ w. apart q (own_reach S e q o) (own_reach (after S e) d q w))

  -- where the second does
  idle_second : IsIdle (after S e) d → Commutes S e d
  idle_second i = record {
    same = ap (λ (U : PointSet). after U e) p ∙ sym (i.after (after S e) (λ r o. refl));
    reply_d = i.reply S agree;
    reply_e = ap (λ (U : PointSet). reply U e) p;
    reach_d = λ x. (
      λ h. own_reach (after S e) d x (i.reach S agree x h),
      λ h. own_reach S d x (i.reach (after S e) (λ r o. refl) x h),
    );
    reach_e = λ x. (subst (λ (U : PointSet). Reach U e x) p, subst (λ (U : PointSet). Reach U e x) (sym p));
  }
    where
      agree : Agree d (after S e) S
      agree q o = sym (others S e q s ke (λ w. apart q (own_reach S e q w) (own_reach (after S e) d q o)))

      p : after S d ≡ S
      p = i.after S agree

  -- where both do something
  both_real : IsProper e → Path S (steps e) (after S e) → IsProper d →
      Path (after S e) (steps d) (after (after S e) d) → Commutes S e d
  both_real ne p nd r = record {
    same = ap (λ (U : PointSet). after U e) first ∙ real_after x.by e (after (after S e) d) ne x.second;
    reply_d = real_reply S d x.by nd x.first ∙ sym (real_reply (after S e) d (after (after S e) d) nd r);
    reply_e = ap (λ (U : PointSet). reply U e) first ∙ real_reply x.by e (after (after S e) d) ne x.second ∙ sym
        (real_reply S e (after S e) ne p);
    reach_d = λ q. (
      λ h. (real_reach (after S e) d (after (after S e) d) nd r q).1
          ((x.reach_ds q).0 ((real_reach S d x.by nd x.first q).0 h)),
      λ h. (real_reach S d x.by nd x.first q).1 ((x.reach_ds q).1 ((real_reach (after S e) d (after (after S e) d) nd r
          q).0 h)),
    );
    reach_e = λ q. (
      λ h. (real_reach S e (after S e) ne p q).1 ((x.reach_es q).0
          ((real_reach x.by e (after (after S e) d) ne x.second q).0 (subst (λ (U : PointSet). Reach U e q) first h))),
      λ h. subst (λ (U : PointSet). Reach U e q) (sym first) ((real_reach x.by e (after (after S e) d) ne x.second q).1
          ((x.reach_es q).1 ((real_reach S e (after S e) ne p q).0 h))),
    );
  }
    where
      x : Swapped S (steps e) (after S e) (steps d) (after (after S e) d) p r
      x = swap S (steps e) (after S e) (steps d) (after (after S e) d) s p r
          (λ q a b. apart q ((real_reach S e (after S e) ne p q).1 a)
          ((real_reach (after S e) d (after (after S e) d) nd r q).1 b))

      first : after S d ≡ x.by
      first = real_after S d x.by nd x.first

  -- edits whose reaches are apart commute
  pub commute : Commutes S e d
  commute = by (kind S e s ke) (kind (after S e) d (solid_after S e s ke) kd)
    where
      by : Kind S e → Kind (after S e) d → Commutes S e d
      by (idle i) k = idle_first i
      by (flat f) (idle i) = idle_second i
      by (real n p) (idle i) = idle_second i
      by (flat f) (flat g) =
          absurd (apart g.some (f.reach g.some (ap (λ (U : PointSet). has_as_point U g.some) (sym f.after) ∙
          g.there)) (g.reach g.some g.there))
      by (flat f) (real n p) =
          let t = real_touches (after S e) d (after (after S e) d) (solid_after S e s ke) kd n p in
          absurd (apart t.0 (f.reach t.0 (ap (λ (U : PointSet). has_as_point U t.0) (sym f.after) ∙ t.1)) t.2)
      by (real n p) (flat g) = let t = real_stays S e (after S e) s n p in absurd (apart t.0 t.2 (g.reach t.0 t.1))
      by (real n p) (real m r) = both_real n p m r

-- a point of a cell that the edit changes is in its reach
pub locality : (S : PointSet) (c : Change) (w x y z : Vertex) → solid S ≡ true → ArePoints c →
    cell S w x y z ≢ cell (after S c) w x y z → z ≢ far → Reach S c z
locality S (step e) w x y z s k differs f = one.locality S e w x y z s k differs f
locality S (move a b) w x y z s k differs f = by (kind S (move a b) s k)
  where
    by : Kind S (move a b) → Reach S (move a b) z
    by (idle i) = absurd (differs (ap (λ (U : PointSet). cell U w x y z) (sym (i.after S (λ r o. refl)))))
    by (flat g) = absurd (differs (ap (λ (U : PointSet). cell U w x y z) (sym g.after)))
    by (real n p) = (move_reach S a b (after S (move a b)) n p z).1
        (where_it_changes (cell S w x y z) (cell p.0 w x y z) (cell (after S (move a b)) w x y z) refl refl refl)
      where
        at_add : cell S w x y z ≢ cell p.0 w x y z → one.Along S (add b) p.0 z
        at_add d = (one.makes_reach S (add b) p.0 p.1 z).0 (one.locality S (add b) w x y z s k.1
            (λ q. d (q ∙ ap (λ (U : PointSet). cell U w x y z) (one.makes_after S (add b) p.0 p.1))) f)

        at_take : cell p.0 w x y z ≢ cell (after S (move a b)) w x y z → one.Along p.0 (take a) (after S (move a b)) z
        at_take d = (one.makes_reach p.0 (take a) (after S (move a b)) p.2 z).0
            (one.locality p.0 (take a) w x y z (one.makes_solid S (add b) p.0 s p.1) k.0
            (λ q. d (q ∙ ap (λ (U : PointSet). cell U w x y z) (one.makes_after p.0 (take a) (after S (move a b)) p.2)))
            f)

        where_it_changes : (u v t : Bool) → cell S w x y z ≡ u → cell p.0 w x y z ≡ v →
            cell (after S (move a b)) w x y z ≡ t → Reached S (steps (move a b)) (after S (move a b)) p z
        where_it_changes true false t e g h = inl (at_add (λ q. false≢true (sym g ∙ sym q ∙ e)))
        where_it_changes false true t e g h = inl (at_add (λ q. false≢true (sym e ∙ q ∙ g)))
        where_it_changes true true true e g h = absurd (differs (e ∙ sym h))
        where_it_changes false false false e g h = absurd (differs (e ∙ sym h))
        where_it_changes true true false e g h = inr (at_take (λ q. false≢true (sym h ∙ sym q ∙ g)))
        where_it_changes false false true e g h = inr (at_take (λ q. false≢true (sym g ∙ q ∙ h)))
