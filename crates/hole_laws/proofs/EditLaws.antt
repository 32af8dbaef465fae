-- The laws of commuting edits, of specs/Commuting.
use Rattle.std.specs.Prelude.{◌≡◌, ◌≢◌, ℕ, ◌^◌, Bool, true, false, cond, if◌then◌else◌, List, [], ◌∷◌, ◌⊎◌, ◌↔◌}
use Rattle.std.proofs.Common.{refl, sym, ap, ap₂, ◌∙◌, subst, inl, inr}
use Rattle.std.proofs.lemmas.Bool.{false≢true, cases_eq}
use Rattle.list_laws.proofs.Cited.{below_true, false_if, four_is}
use Rattle.point_order.specs.Coordinates.{IsKey}
use Rattle.point_order.specs.Sets.{IsIn, is_among, with_point, without_point}
use Rattle.point_order.specs.Solid.{is_solid}
use Rattle.point_order.specs.Complex.{complex}
use Rattle.point_order.specs.Facets.{points_of}
use Rattle.point_order.specs.declared.cell.Cell.{Cell}
use Rattle.edit_history.specs.declared.history.Edit.{Edit}
use Rattle.edit_history.specs.declared.history.Edit.TheVariants.{Add, Take, Move}
use Rattle.edit_history.specs.declared.history.Reply.TheVariants.{Inserted, Duplicate, Removed, Missing, Flat, Moved}
use Rattle.edit_history.specs.declared.history.Reply.TheVariants.{Occupied}
use Rattle.edit_history.specs.Edits.{HasKeys, moved_to, reply_to, after, arrived, changed}
use Rattle.del_laws.specs.Cells.{Vertex, point, far}
use Rattle.del_laws.specs.PointSets.{PointSet, solid, cell, minus, is_point, has_as_point, set_with}
use Rattle.del_laws.proofs.Cited.{ascending_of, has_from, has_true, keys_of, minus_points, plus_points, same_point}
use Rattle.del_laws.specs.Base.{Symmetric}
use Rattle.hole_laws.specs.Lists.{Goes, AreJoined}
use Rattle.hole_laws.specs.Edits.{IsSolidSet}
use Rattle.hole_laws.specs.Laws.{IsReached}
use Rattle.hole_laws.specs.Commuting.{Reaches, StaysSolid, ChangesReached, DoCommute, EditsCommute}
use Rattle.hole_laws.proofs.Tests.{IsComplex, Insertion, AreLinked, IsAtGone}
use Rattle.hole_laws.proofs.Vertex.{has_vertex, IsOrdered, ListsCells}
use Rattle.hole_laws.proofs.CellVertices.{all_vertices}
use Rattle.hole_laws.proofs.FacetVertices.{IsAgainst, facet_against}
use Rattle.hole_laws.proofs.Listed.{cell_of, listed_of, test_goes}
use Rattle.hole_laws.proofs.NewCells.{point_vertex, vertex_point}
use Rattle.hole_laws.proofs.Near.{at_gone, joined_of}
use Rattle.hole_laws.proofs.FromBase.{complex_of, insertion}
use Rattle.hole_laws.proofs.Corners.{plus_adds}
use Rattle.hole_laws.proofs.OfSets.{set_of, set_of_points, solid_of, lists_cells}
use Rattle.hole_laws.proofs.Commute.{add, take}
use Rattle.hole_laws.proofs.Moves as sets
use Rattle.hole_laws.proofs.Moves.{Change, step, move}

-- ---- edits of sets and of their lists

-- an edit, its points as vertices
step_of : Edit → Change
step_of (Add p) = step (add (point p))
step_of (Take p) = step (take (point p))
step_of (Move a b) = move (point a) (point b)

-- a key is a point
key_point : (p : ℕ) → IsKey p → is_point (point p) ≡ true
key_point p k = below_true p (2 ^ 42) k

-- the edit's points are points
step_point : (a : Edit) → HasKeys a → sets.ArePoints (step_of a)
unfolding step_of
step_point (Add p) k = key_point p k
step_point (Take p) k = key_point p k
step_point (Move a b) k = (key_point a k.0, key_point b k.1)

-- the list with b and without a
both_points : (s : PointSet) (a b : ℕ) → IsKey b → (minus (set_with s (point b)) (point a)).points
    ≡ moved_to a b s.points
both_points s a b k = minus_points (set_with s (point b)) a ∙ ap (without_point a) (plus_points s b k)

-- the list after an edit
points_after : (s : PointSet) (a : Edit) → HasKeys a → (sets.after s (step_of a)).points ≡ after s.points a
unfolding step_of
points_after s (Add p) k = by_test (is_among p s.points) refl
  where
    by_test : (b : Bool) → is_among p s.points ≡ b → (cond (is_among p s.points) s (set_with s (point p))).points
        ≡ changed s.points p (if is_among p s.points then Duplicate else Inserted)
    by_test true e = rw e refl
    by_test false e = rw e (plus_points s p k)
points_after s (Take p) k = by_test (is_among p s.points) (is_solid (without_point p s.points)) refl refl
  where
    solid_rest : solid (minus s (point p)) ≡ is_solid (without_point p s.points)
    solid_rest = ap is_solid (minus_points s p)

    by_test : (b c : Bool) → is_among p s.points ≡ b → is_solid (without_point p s.points) ≡ c →
        (cond (is_among p s.points) (cond (solid (minus s (point p))) (minus s (point p)) s) s).points
        ≡ changed s.points p (if is_among p s.points then (if is_solid (without_point p s.points) then Removed else
        Flat) else Missing)
    by_test false c e f = rw e refl
    by_test true false e f = rw (e, solid_rest, f) refl
    by_test true true e f = rw (e, solid_rest, f) (minus_points s p)
points_after s (Move a b) k =
    by_test (is_among a s.points) (is_among b s.points) (is_solid (moved_to a b s.points)) refl refl refl
  where
    by_test : (x y z : Bool) → is_among a s.points ≡ x → is_among b s.points ≡ y → is_solid (moved_to a b s.points)
        ≡ z →
        (sets.after s (move (point a) (point b))).points ≡ after s.points (Move a b)
    by_test false y z e f g = rw e refl
    by_test true true z e f g = rw (e, f) refl
    by_test true false false e f g = rw (e, f, ap is_solid (both_points s a b k.1), g) refl
    by_test true false true e f g = rw (e, f, ap is_solid (both_points s a b k.1), g) (both_points s a b k.1)

-- and the reply
reply_same : (s : PointSet) (a : Edit) → HasKeys a → sets.reply s (step_of a) ≡ reply_to s.points a
unfolding step_of
reply_same s (Add p) k = by_test (is_among p s.points) refl
  where
    by_test : (b : Bool) → is_among p s.points ≡ b → cond (is_among p s.points) Duplicate Inserted
        ≡ (if is_among p s.points then Duplicate else Inserted)
    by_test true e = rw e refl
    by_test false e = rw e refl
reply_same s (Take p) k = by_test (is_among p s.points) (is_solid (without_point p s.points)) refl refl
  where
    solid_rest : solid (minus s (point p)) ≡ is_solid (without_point p s.points)
    solid_rest = ap is_solid (minus_points s p)

    by_test : (b c : Bool) → is_among p s.points ≡ b → is_solid (without_point p s.points) ≡ c →
        cond (is_among p s.points) (cond (solid (minus s (point p))) Removed Flat) Missing
        ≡ (if is_among p s.points then (if is_solid (without_point p s.points) then Removed else Flat) else Missing)
    by_test false c e f = rw e refl
    by_test true false e f = rw (e, solid_rest, f) refl
    by_test true true e f = rw (e, solid_rest, f) refl
reply_same s (Move a b) k =
    by_test (is_among a s.points) (is_among b s.points) (is_solid (moved_to a b s.points)) refl refl refl
  where
    by_test : (x y z : Bool) → is_among a s.points ≡ x → is_among b s.points ≡ y → is_solid (moved_to a b s.points)
        ≡ z →
        sets.reply s (move (point a) (point b)) ≡ reply_to s.points (Move a b)
    by_test false y z e f g = rw e refl
    by_test true true z e f g = rw (e, f) refl
    by_test true false false e f g = rw (e, f, ap is_solid (both_points s a b k.1), g) refl
    by_test true false true e f g = rw (e, f, ap is_solid (both_points s a b k.1), g) refl

-- ---- what edits reach

-- two points of a cell are linked
linked_of : (c : Vertex → Vertex → Vertex → Vertex → Bool) (k : IsComplex c) (l : List Cell) (t : ListsCells l c)
    (v e : ℕ) → e ≢ v → AreJoined l v e → AreLinked c (point v) (point e)
linked_of c k l t v e n j =
    elim (all_vertices j.q o a.t1 a.t2 a.t3 (point v) a.four a.vertices (point e) (point_vertex j.q e j.has_e)) [
      | inl q ↦ record {
        t1 = a.t2;
        t2 = a.t3;
        cell = ap (λ z. c a.t2 a.t3 z (point v)) (sym q)
            ∙ sym (s.middle a.t2 a.t1 a.t3 (point v)) ∙ sym (s.first a.t1 a.t2 a.t3 (point v)) ∙ h;
      }
      | inr r ↦ elim r [
        | inl q ↦ record {
          t1 = a.t1;
          t2 = a.t3;
          cell = ap (λ z. c a.t1 a.t3 z (point v)) (sym q)
              ∙ sym (s.middle a.t1 a.t2 a.t3 (point v)) ∙ h;
        }
        | inr u ↦ elim u [
          | inl q ↦ record { t1 = a.t1; t2 = a.t2; cell = ap (λ z. c a.t1 a.t2 z (point v)) (sym q) ∙ h }
          | inr w ↦ elim w [ inl q ↦ absurd (n (same_point e v (sym q))) | inr none ↦ absurd none ]
        ]
      ]
    ]
  where
    o : IsOrdered j.q
    o = t.ordered j.q j.listed

    a : IsAgainst j.q (point v) (facet_against j.q o (point v) (point_vertex j.q v j.has_p)).f
    a = (facet_against j.q o (point v) (point_vertex j.q v j.has_p)).against

    s : Symmetric c
    s = k.laws.symmetric

    h : c a.t1 a.t2 a.t3 (point v) ≡ true
    h = cell_of c k l t j.q j.listed a.t1 a.t2 a.t3 (point v) a.four a.vertices

-- the list of the set with a key
lists_plus : (s : PointSet) (p : ℕ) → IsKey p →
    ListsCells (complex (with_point p s.points)) (cell (set_with s (point p)))
lists_plus s p k =
    subst (λ (v : List ℕ). ListsCells (complex v) (cell (set_with s (point p)))) (plus_points s p k)
    (lists_cells (set_with s (point p)))

-- an added point reaches the points of cells that go
reached_same : (s : PointSet) → solid s ≡ true → (p : ℕ) → IsKey p → has_as_point s (point p) ≡ false → (e : ℕ) →
    IsAtGone (cell s) (cell (set_with s (point p))) (point e) ↔ IsReached s.points p e
reached_same s h p k f e = (
  λ g. (
      let r = test_goes (cell s) (cell (set_with s (point p))) p ins (complex s.points)
      (complex (with_point p s.points))
      (lists_cells s) (lists_plus s p k) g.t1 g.t2 g.t3 (point e) g.cell in
      record {
        q = r.0;
        goes = r.1;
        has = vertex_point r.0 e (four_is (has_vertex r.0 g.t1) (has_vertex r.0 g.t2)
            (has_vertex r.0 g.t3) (has_vertex r.0 (point e)) r.2).3;
      }),
  λ r. at_gone (cell s) (cell (set_with s (point p))) p ins (complex s.points) (complex (with_point p s.points))
      (lists_cells s) (lists_plus s p k) e r,
)
  where
    ins : Insertion (cell s) (cell (set_with s (point p))) (point p)
    ins = insertion s (set_with s (point p)) (point p) h (plus_adds s (point p) (key_point p k) f)

-- the points that an edit reaches
reach_same : (s : PointSet) → solid s ≡ true → (a : Edit) → HasKeys a → (e : ℕ) → sets.Reach s (step_of a) (point e)
    ↔ Reaches s.points a e
unfolding step_of
reach_same s h (Add p) k e = (
  λ r. elim r [
    | inl q ↦ inl (same_point e p q)
    | inr g ↦ inr ((λ m. false≢true (sym g.0 ∙ has_true s p m)), (reached_same s h p k g.0 e).0 g.1)
  ],
  λ r. elim r [
    | inl q ↦ inl (ap point q)
    | inr g ↦ (let f = false_if (has_as_point s (point p)) (λ m. g.0 (has_from s p m)) in
        inr (f, (reached_same s h p k f e).1 g.1))
  ],
)
reach_same s h (Take v) k e = (
  λ r. elim r [
    | inl q ↦ inl (same_point e v q)
    | inr g ↦ inr (has_from s v g.0, joined_of (cell s) (complex s.points) (lists_cells s) v e g.2)
  ],
  λ r. elim r [
    | inl q ↦ inl (ap point q)
    | inr g ↦ elim (cases_eq e v) [
      | inl q ↦ inl (ap point q)
      | inr n ↦ inr (
        has_true s v g.0,
        (λ q. (cc)),
        linked_of (cell s) (complex_of s) (complex s.points) (lists_cells s)
            v e n g.1,
      )
    ]
  ],
)
reach_same s h (Move a b) k e = (there, back)
  where
    there : sets.Reach s (move (point a) (point b)) (point e) → Reaches s.points (Move a b) e
    there (inl q) = inl (same_point e a q)
    there (inr (inl q)) = inr (inl (same_point e b q))
    there (inr (inr g)) = inr (inr (
      has_from s a g.0,
      (λ m. false≢true (sym g.1 ∙ has_true s b m)),
      elim g.2 [
        | inl r ↦ inl ((reached_same s h b k.1 g.1 e).0 r)
        | inr l ↦ inr (joined_of (cell (set_with s (point b))) (complex (with_point b s.points))
            (lists_plus s b k.1) a e
            l.1)
      ],
    ))

    back : Reaches s.points (Move a b) e → sets.Reach s (move (point a) (point b)) (point e)
    back (inl q) = inl (ap point q)
    back (inr (inl q)) = inr (inl (ap point q))
    back (inr (inr g)) =
        let f : has_as_point s (point b) ≡ false = false_if (has_as_point s (point b)) (λ m. g.1 (has_from s b m)) in
        elim g.2 [
          | inl r ↦ inr (inr (has_true s a g.0, f, inl ((reached_same s h b k.1 f e).1 r)))
          | inr j ↦ elim (cases_eq e a) [
            | inl q ↦ inl (ap point q)
            | inr n ↦ inr (inr (
              has_true s a g.0,
              f,
              inr (
                (λ q. (cc)),
                linked_of (cell (set_with s (point b))) (complex_of (set_with s (point b)))
                    (complex (with_point b s.points))
                    (lists_plus s b k.1) a e n j,
              ),
            ))
          ]
        ]

-- no edit reaches the infinite vertex
reach_finite : (s : PointSet) (a : Edit) → sets.Reach s (step_of a) far → ⊥
unfolding step_of
reach_finite s (Add p) r = elim r [ inl q ↦ cc | inr g ↦ g.1.finite refl ]
reach_finite s (Take v) r = elim r [ inl q ↦ cc | inr g ↦ g.1 refl ]
reach_finite s (Move a b) r = elim r [
  | inl q ↦ cc
  | inr x ↦ elim x [ inl q ↦ cc | inr g ↦ elim g.2 [ inl y ↦ y.finite refl | inr y ↦ y.0 refl ] ]
]

-- ---- one set

-- a cell of one set and none of another, as the tests see it
record Differs (s t : PointSet) (z : Vertex) : Type 0 where
  t1 : Vertex
  t2 : Vertex
  t3 : Vertex
  here : cell s t1 t2 t3 z ≡ true
  there : cell t t1 t2 t3 z ≡ false

-- at each of its points
differs_at : (s t : PointSet) (q : Cell) → Goes (complex s.points) (complex t.points) q → (e : ℕ) →
    IsIn e (points_of q) → Differs s t (point e)
differs_at s t q g e m =
    let o = (lists_cells s).ordered q g.before in
    let a = (facet_against q o (point e) (point_vertex q e m)).against in
    record {
      t1 = a.t1;
      t2 = a.t2;
      t3 = a.t3;
      here = cell_of (cell s) (complex_of s) (complex s.points) (lists_cells s) q g.before a.t1 a.t2 a.t3
          (point e) a.four a.vertices;
      there = false_if (cell t a.t1 a.t2 a.t3 (point e)) (λ h. g.after
          (listed_of (cell t) (complex_of t) (complex t.points) (lists_cells t) q o a.t1 a.t2 a.t3 (point e) a.four
          a.vertices h));
    }

module _ (s : PointSet) (h : solid s ≡ true) (a : Edit) (ka : HasKeys a) where
  -- the set after the edit
  abbrev next : PointSet
  next = sets.after s (step_of a)

  -- it is solid
  next_solid : solid next ≡ true
  next_solid = sets.solid_after s (step_of a) h (step_point a ka)

  -- so is the list
  list_solid : IsSolidSet (after s.points a)
  list_solid =
      subst IsSolidSet (points_after s a ka) (record {
        set = record {
          ascending = ascending_of next;
          keys = keys_of next;
        };
        solid = next_solid;
      })

  -- what it reaches there, of the list
  reach_next : (b : Edit) → HasKeys b → (e : ℕ) → sets.Reach next (step_of b) (point e) ↔ Reaches (after s.points a) b e
  reach_next b kb e =
      subst (λ (v : List ℕ). sets.Reach next (step_of b) (point e) ↔ Reaches v b e) (points_after s a ka)
      (reach_same next next_solid b kb e)

  -- a point at which the two sets differ is reached
  differ_reached : (e : ℕ) → Differs s next (point e) ⊎ Differs next s (point e) → Reaches s.points a e
  differ_reached e d = (reach_same s h a ka e).0 (elim d [
    | inl k ↦ sets.locality s (step_of a) k.t1 k.t2 k.t3 (point e) h (step_point a ka)
        (λ q. false≢true (sym k.there ∙ sym q ∙ k.here)) (λ q. (cc))
    | inr k ↦ sets.locality s (step_of a) k.t1 k.t2 k.t3 (point e) h (step_point a ka)
        (λ q. false≢true (sym k.there ∙ q ∙ k.here)) (λ q. (cc))
  ])

  -- so each point of a cell that changes is
  changed_reached : (q : Cell) → Goes (complex s.points) (complex (after s.points a)) q
      ⊎ Goes (complex (after s.points a)) (complex s.points) q → (e : ℕ) → IsIn e (points_of q) → Reaches s.points a e
  changed_reached q g e m = differ_reached e (elim g [
    | inl k ↦ inl (differs_at s next q (subst (λ (v : List ℕ). Goes (complex s.points) (complex v) q)
        (sym (points_after s a ka)) k) e m)
    | inr k ↦ inr (differs_at next s q (subst (λ (v : List ℕ). Goes (complex v) (complex s.points) q)
        (sym (points_after s a ka)) k) e m)
  ])

-- edits whose reaches are apart commute
commute_at : (s : PointSet) → solid s ≡ true → (a b : Edit) → HasKeys a → HasKeys b →
    ((e : ℕ) → Reaches s.points a e → ¬ (Reaches (after s.points a) b e)) → DoCommute s.points a b
commute_at s h a b ka kb apart = record {
  same = sym (points_after (next s h b kb) a ka ∙ ap (λ v. after v a) (points_after s b kb))
      ∙ ap (λ (v : PointSet). v.points) c.same ∙ points_after (next s h a ka) b kb
      ∙ ap (λ v. after v b) (points_after s a ka);
  reply_a = sym (reply_same (next s h b kb) a ka ∙ ap (λ v. reply_to v a) (points_after s b kb)) ∙ c.reply_e
      ∙ reply_same s a ka;
  reply_b = sym (reply_same s b kb) ∙ c.reply_d ∙ reply_same (next s h a ka) b kb
      ∙ ap (λ v. reply_to v b) (points_after s a ka);
  reach_a = λ e. (
    λ r. (reach_same s h a ka e).0 ((c.reach_e (point e)).0 ((reach_next s h b kb a ka e).1 r)),
    λ r. (reach_next s h b kb a ka e).0 ((c.reach_e (point e)).1 ((reach_same s h a ka e).1 r)),
  );
  reach_b = λ e. (
    λ r. (reach_next s h a ka b kb e).0 ((c.reach_d (point e)).0 ((reach_same s h b kb e).1 r)),
    λ r. (reach_same s h b kb e).0 ((c.reach_d (point e)).1 ((reach_next s h a ka b kb e).1 r)),
  );
}
  where
    far_apart : (q : Vertex) → sets.Reach s (step_of a) q → sets.Reach (sets.after s (step_of a)) (step_of b) q → ⊥
    far_apart (point e) r t = apart e ((reach_same s h a ka e).0 r) ((reach_next s h a ka b kb e).0 t)
    far_apart far r t = reach_finite s a r

    c : sets.Commutes s (step_of a) (step_of b)
    c = sets.commute s (step_of a) (step_of b) h (step_point a ka) (step_point b kb) far_apart

-- ---- the laws

-- a solid set stays solid
pub stays_solid : StaysSolid
stays_solid s a i k =
    subst (λ (v : List ℕ). IsSolidSet (after v a)) (set_of_points s i.set)
    (list_solid (set_of s i.set) (solid_of s i.set i.solid) a k)

-- what changes is reached
pub changes_reached : ChangesReached
changes_reached s a i k =
    subst (λ (v : List ℕ). (q : Cell) → Goes (complex v) (complex (after v a)) q
    ⊎ Goes (complex (after v a)) (complex v) q → (e : ℕ) → IsIn e (points_of q) → Reaches v a e)
    (set_of_points s i.set) (changed_reached (set_of s i.set) (solid_of s i.set i.solid) a k)

-- edits whose reaches are apart commute
pub edits_commute : EditsCommute
edits_commute s a b i ka kb =
    subst (λ (v : List ℕ). ((e : ℕ) → Reaches v a e → ¬ (Reaches (after v a) b e)) → DoCommute v a b)
    (set_of_points s i.set) (commute_at (set_of s i.set) (solid_of s i.set i.solid) a b ka kb)
