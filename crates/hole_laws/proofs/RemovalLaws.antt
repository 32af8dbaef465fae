-- The laws of removal, of specs/Laws.
use Rattle.std.specs.Prelude.{◌≡◌, ◌≢◌, ℕ, true, false, List, ◌⊎◌, ◌↔◌}
use Rattle.std.proofs.Common.{refl, sym, ap, ◌∙◌, inl, inr, subst}
use Rattle.std.proofs.lemmas.Bool.{false≢true}
use Rattle.list_laws.proofs.Cited.{false_if, four_is, is_in, not_both}
use Rattle.point_order.specs.Sets.{IsIn, with_point, without_point}
use Rattle.point_order.specs.Solid.{is_solid}
use Rattle.point_order.specs.Complex.{complex}
use Rattle.point_order.specs.Facets.{facets_of, points_of}
use Rattle.point_order.specs.declared.cell.Cell.{Cell}
use Rattle.del_laws.specs.Cells.{Vertex, point, far}
use Rattle.del_laws.specs.PointSets.{cell, has_as_point}
use Rattle.del_laws.proofs.Cited.{complex_is_sorted, solid_more}
use Rattle.hole_laws.proofs.Tests.{IsComplex, AreLinked, IsOpposite, gone}
use Rattle.hole_laws.specs.Lists.{Goes, AreJoined}
use Rattle.hole_laws.proofs.Vertex.{has_vertex, ListsCells}
use Rattle.hole_laws.specs.Edits.{IsSet, IsSolidSet, IsNew, GoesFrom, IsPointAcross}
use Rattle.hole_laws.specs.Laws.{CellsOfRest, MadeByRemoval, RefilledFromLink, ComingAreNear, SolidNear, FlatRestJoined}
use Rattle.hole_laws.proofs.CellVertices.{same_cell, all_vertices}
use Rattle.hole_laws.proofs.FacetVertices.{facet_against, shared_facet}
use Rattle.hole_laws.proofs.Listed.{four_of, corners, goes_test, test_goes}
use Rattle.hole_laws.proofs.NewCells.{point_vertex, vertex_point}
use Rattle.hole_laws.proofs.Near.{joined_of}
use Rattle.hole_laws.proofs.FromBase.{complex_of}
use Rattle.hole_laws.proofs.Removal as removal
use Rattle.hole_laws.proofs.OfSets.{set_of, lists_of, more_set, adds, solid_of, of_solid, inserts, has_of, of_has}
use Rattle.hole_laws.proofs.Rest.{rest_set, rest_new, restored}
use Rattle.hole_laws.proofs.ExchangedLists.{made, decided}
use Rattle.hole_laws.proofs.Laws.{cells_after, fresh_have_point, old_lack_point, joined_are_reached}

-- ---- v is new to r, and to a part t of r

module _ (r t : List ℕ) (v : ℕ) (ir : IsSolidSet r) (it : IsSolidSet t) (nr : IsNew r v) (nt : IsNew t v) where
  -- the cells that v takes away pass the same test in both, so they are the same
  cells_same :
      ((w x y z : Vertex) → gone (cell (set_of t it.set)) (cell (set_of (with_point v t) (more_set t v it.set nt.key)))
      w x y z ≡ gone (cell (set_of r ir.set)) (cell (set_of (with_point v r) (more_set r v ir.set nr.key))) w x y
      z) →
      (q : Cell) → GoesFrom t v q → GoesFrom r v q
  cells_same e q g =
      let k = corners q ((lists_of t it.set).ordered q g.before) in
      let m = test_goes (cell (set_of r ir.set)) (cell (set_of (with_point v r) (more_set r v ir.set nr.key))) v
      (inserts r v ir nr) (complex r) (complex (with_point v r)) (lists_of r ir.set)
      (lists_of (with_point v r) (more_set r v ir.set nr.key)) k.w k.x k.y k.z
      (sym (e k.w k.x k.y k.z) ∙ goes_test (cell (set_of t it.set))
      (cell (set_of (with_point v t) (more_set t v it.set nt.key))) v (inserts t v it nt) (complex t)
      (complex (with_point v t)) (lists_of t it.set) (lists_of (with_point v t) (more_set t v it.set nt.key)) q g
      k.w k.x k.y k.z k.four k.vertices) in
      subst (GoesFrom r v) (same_cell m.0 q ((lists_of r ir.set).ordered m.0 m.1.before)
      ((lists_of t it.set).ordered q g.before) k.w k.x k.y k.z k.four m.2 k.vertices) m.1

-- a point that is joined to another, as the tests see it
linked_joined : (s : List ℕ) (i : IsSet s) (v e : ℕ) → AreLinked (cell (set_of s i)) (point v) (point e) →
    (e ≢ v) × AreJoined (complex s) v e
linked_joined s i v e l = (
  λ q. false≢true (sym ((complex_of (set_of s i)).laws.apart l.t1 l.t2 (point v))
      ∙ ap (λ z. cell (set_of s i) l.t1 l.t2 z (point v)) (ap point (sym q)) ∙ l.cell),
  joined_of (cell (set_of s i)) (complex s) (lists_of s i) v e l,
)

module _ (r : List ℕ) (v : ℕ) (i : IsSet r) (n : IsNew r v) where
  -- r with v is a set
  abbrev more : IsSet (with_point v r)
  more = more_set r v i n.key

  -- a set that has all that is joined to v has what the tests say is linked to it
  link_has : (t : List ℕ) (j : IsSet t) → ((e : ℕ) → e ≢ v → AreJoined (complex (with_point v r)) v e → IsIn e t) →
      (q : Vertex) → q ≢ far → AreLinked (cell (set_of (with_point v r) more)) (point v) q →
      has_as_point (set_of t j) q ≡ true
  link_has t j f (point e) d l = let k = linked_joined (with_point v r) more v e l in has_of t j e (f e k.0 k.1)
  link_has t j f far d l = absurd (d refl)

  -- the cells that v takes away from r are those that it takes away from a solid set between its link and r
  pub refilled : (t : List ℕ) (it : IsSolidSet t) → ((e : ℕ) → IsIn e t → IsIn e r) →
      ((e : ℕ) → e ≢ v → AreJoined (complex (with_point v r)) v e → IsIn e t) → (q : Cell) → GoesFrom r v q
      ↔ GoesFrom t v q
  refilled t it inside link q =
      (cells_same t r v it ir nt n (λ w x y z. sym (same w x y z)) q, cells_same r t v ir it n nt same q)
    where
      nt : IsNew t v
      nt = record { key = n.key; absent = λ m. n.absent (inside v m) }

      ir : IsSolidSet r
      ir = record { set = i; solid = solid_more t r inside it.solid }

      within : (q : Vertex) → has_as_point (set_of t it.set) q ≡ true → has_as_point (set_of r i) q ≡ true
      within (point e) h = has_of r i e (inside e (of_has t it.set e h))
      within far h = absurd (false≢true h)

      same : (w x y z : Vertex) → gone (cell (set_of t it.set))
          (cell (set_of (with_point v t) (more_set t v it.set nt.key))) w x y z ≡ gone (cell (set_of r i))
          (cell (set_of (with_point v r) (more_set r v i n.key))) w x y z
      same =
          removal.removal (set_of r i) (set_of (with_point v r) more) (set_of t it.set)
          (set_of (with_point v t) (more_set t v it.set nt.key)) (point v) (adds r v i n) (adds t v it.set nt)
          (solid_of t it.set it.solid) within (link_has t it.set link)

  -- a flat rest is joined to v
  pub flat_joined : is_solid (with_point v r) ≡ true → is_solid r ≡ false → (e : ℕ) → IsIn e r →
      AreJoined (complex (with_point v r)) v e
  flat_joined h f e m =
      joined_of (cell (set_of (with_point v r) more)) (complex (with_point v r)) (lists_of (with_point v r) more) v e
      (removal.flat_rest (set_of r i) (set_of (with_point v r) more) (point v) (adds r v i n)
      (solid_of (with_point v r) more h) (false_if _ (λ k. not_both (is_solid r) (of_solid r i k) f)) (point e)
      (has_of r i e m))

  -- a solid rest shows in what is joined to v and what is across
  pub solid_shows : (t : List ℕ) (j : IsSet t) → is_solid r ≡ true →
      ((e : ℕ) → e ≢ v → AreJoined (complex (with_point v r)) v e → IsIn e t) →
      ((e : ℕ) → IsPointAcross (with_point v r) v e → IsIn e t) → is_solid t ≡ true
  solid_shows t j h link across =
      of_solid t j (removal.solid_near (set_of r i) (set_of (with_point v r) more) (set_of t j) (point v) (adds r v i n)
      (solid_of r i h) (link_has t j link) opposite)
    where
      lists : ListsCells (complex (with_point v r)) (cell (set_of (with_point v r) more))
      lists = lists_of (with_point v r) more

      whole : IsComplex (cell (set_of (with_point v r) more))
      whole = complex_of (set_of (with_point v r) more)

      found : (e : ℕ) → IsOpposite (cell (set_of (with_point v r) more)) (point v) (point e) →
          IsPointAcross (with_point v r) v e
      found e o =
          let a = lists.found o.t1 o.t2 o.t3 (point v) o.here in
          let b = lists.found o.t1 o.t2 o.t3 (point e) o.there in
          let da = four_of (cell (set_of (with_point v r) more)) whole o.t1 o.t2 o.t3 (point v) o.here in
          let db = four_of (cell (set_of (with_point v r) more)) whole o.t1 o.t2 o.t3 (point e) o.there in
          let ha = (four_is (has_vertex a.q o.t1) (has_vertex a.q o.t2) (has_vertex a.q o.t3) (has_vertex a.q (point v))
          a.vertices).3 in
          let hb = (four_is (has_vertex b.q o.t1) (has_vertex b.q o.t2) (has_vertex b.q o.t3) (has_vertex b.q (point e))
          b.vertices).3 in
          let f = facet_against a.q (lists.ordered a.q a.listed) (point v) ha in
          let g = facet_against b.q (lists.ordered b.q b.listed) (point e) hb in
          record {
            f = f.f;
            here = a.q;
            here_listed = a.listed;
            here_has = vertex_point a.q v ha;
            of_here = f.against.listed;
            there = b.q;
            there_listed = b.listed;
            there_lacks =
                λ m. elim (all_vertices b.q (lists.ordered b.q b.listed) o.t1 o.t2 o.t3 (point e) db b.vertices
                (point v) (point_vertex b.q v m)) [
                  | inl x ↦ da.wz x
                  | inr x ↦ elim x [
                    | inl y ↦ da.xz y
                    | inr y ↦ elim y [ inl z ↦ da.yz z | inr z ↦ elim z [ inl u ↦ o.other u | inr none ↦ none ] ]
                  ]
                ];
            of_there =
                subst (λ x. IsIn x (facets_of b.q))
                (sym (shared_facet a.q b.q (lists.ordered a.q a.listed) (lists.ordered b.q b.listed) o.t1 o.t2 o.t3
                (point v) (point e) da db a.vertices b.vertices f.f g.f f.against g.against)) g.against.listed;
            has = vertex_point b.q e hb;
          }

      opposite : (q : Vertex) → IsOpposite (cell (set_of (with_point v r) more)) (point v) q →
          has_as_point (set_of t j) q ≡ true
      opposite (point e) o = has_of t j e (across e (found e o))
      opposite far o = absurd (o.finite refl)

  -- the cells of r are those of r with v that do not have v, and those that v takes away
  pub rest_cells : is_solid r ≡ true → (q : Cell) → IsIn q (complex r)
      ↔ ((IsIn q (complex (with_point v r)) × ¬ (IsIn v (points_of q))) ⊎ GoesFrom r v q)
  rest_cells h q = (
    λ m. elim (decided r (with_point v r) i more q m) [
      | inl k ↦ inl (k, old_lack_point r v ir n q m)
      | inr k ↦ inr (record { before = m; after = k })
    ],
    λ k. elim k [
      | inl a ↦ elim ((cells_after r v ir n q).0 a.0) [
        | inl y ↦ y.before
        | inr y ↦ absurd (a.1 ((fresh_have_point r v ir n q a.0).0 y))
      ]
      | inr g ↦ g.before
    ],
  )
    where
      ir : IsSolidSet r
      ir = record { set = i; solid = h }

  -- the points of the cells that v takes away are joined to it
  pub coming_near : is_solid r ≡ true → (q : Cell) → GoesFrom r v q → (e : ℕ) → IsIn e (points_of q) →
      AreJoined (complex (with_point v r)) v e
  coming_near h q g e m =
      (joined_are_reached r v ir n e (λ x. old_lack_point r v ir n q g.before
      (subst (λ y. IsIn y (points_of q)) x m))).1 (record { q = q; goes = g; has = m })
    where
      ir : IsSolidSet r
      ir = record { set = i; solid = h }

-- ---- the laws, where the rest is a set without one of its points

module _ (s : List ℕ) (v : ℕ) (i : IsSet s) (m : IsIn v s) where
  -- what holds of the rest with v holds of the set
  moved : (law : List ℕ → Type 0) → law (with_point v (without_point v s)) → law s
  moved law h = subst law (restored v s i m) h

  -- and back
  back : (law : List ℕ → Type 0) → law s → law (with_point v (without_point v s))
  back law h = subst law (sym (restored v s i m)) h

-- the cells of the rest
pub cells_of_rest : CellsOfRest
cells_of_rest s v i m h q =
    moved s v i m (λ x. IsIn q (complex (without_point v s)) ↔ ((IsIn q (complex x) × ¬ (IsIn v (points_of q)))
    ⊎ Goes (complex (without_point v s)) (complex x) q))
    (rest_cells (without_point v s) v (rest_set v s i) (rest_new v s i m) h q)

-- the cells that come, from the link
pub refilled_from_link : RefilledFromLink
refilled_from_link s v t i m k q =
    moved s v i m (λ x. Goes (complex (without_point v s)) (complex x) q ↔ GoesFrom t v q)
    (refilled (without_point v s) v (rest_set v s i) (rest_new v s i m) t k.solid k.inside
    (back s v i m (λ x. (e : ℕ) → e ≢ v → AreJoined (complex x) v e → IsIn e t) k.link) q)

-- their points are in the link
pub coming_are_near : ComingAreNear
coming_are_near s v i m h =
    moved s v i m (λ x. (q : Cell) → Goes (complex (without_point v s)) (complex x) q → (e : ℕ) → IsIn e (points_of q) →
    AreJoined (complex x) v e)
    (coming_near (without_point v s) v (rest_set v s i) (rest_new v s i m) h)

-- a solid rest shows near by
pub solid_near : SolidNear
solid_near s v t i m j h link across =
    solid_shows (without_point v s) v (rest_set v s i) (rest_new v s i m) t j h
    (back s v i m (λ x. (e : ℕ) → e ≢ v → AreJoined (complex x) v e → IsIn e t) link)
    (back s v i m (λ x. (e : ℕ) → IsPointAcross x v e → IsIn e t) across)

-- a flat rest is in the link
pub flat_rest_joined : FlatRestJoined
flat_rest_joined s v i m f =
    moved s v i.set m (λ x. (e : ℕ) → IsIn e (without_point v s) → AreJoined (complex x) v e)
    (flat_joined (without_point v s) v (rest_set v s i.set) (rest_new v s i.set m)
    (back s v i.set m (λ x. is_solid x ≡ true) i.solid) f)

-- the list of the rest, from that of the set
pub made_by_removal : MadeByRemoval
made_by_removal s v i m h gone fresh l g f x =
    let j = rest_set v s i in
    made (complex s) (complex (without_point v s)) gone fresh l (decided s (without_point v s) i j)
    (decided (without_point v s) s j i) (complex_is_sorted (without_point v s) j.ascending)
    (λ q. (
      λ k. (let r = (g q).0 k in record { before = r.0; after = λ o. lacks q o r.1 }),
      λ k. (g q).1 (k.before, has q k),
    ))
    (λ q. (λ k. (let r = (f q).0 k in (r.before, r.after)), λ k. (f q).1 (record { before = k.0; after = k.1 }))) x
  where
    -- a cell of the rest has not v
    lacks : (q : Cell) → IsIn q (complex (without_point v s)) → ¬ (IsIn v (points_of q))
    lacks q o = old_lack_point (without_point v s) v (record { set = rest_set v s i; solid = h }) (rest_new v s i m) q o

    -- and a cell that goes has it
    has : (q : Cell) → Goes (complex s) (complex (without_point v s)) q → IsIn v (points_of q)
    has q k = elim (is_in v (points_of q)) [
      | yes y ↦ y
      | no n ↦ absurd (k.after ((cells_of_rest s v i m h q).1 (inl (k.before, n))))
    ]
