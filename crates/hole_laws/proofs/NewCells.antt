-- The new cells of an insertion over lists: those of the new point and a rim facet; what changes is near by.
use Rattle.std.specs.Prelude.{◌≡◌, ◌≢◌, ℕ, Bool, true, false, List, [], ◌∷◌}
use Rattle.std.proofs.Common.{refl, sym, ap, ◌∙◌, subst, inl, inr}
use Rattle.std.proofs.lemmas.Bool.{false≢true}
use Rattle.list_laws.proofs.Cited.{among_from, among_true, and_not, and_not_from, four_is, four_true, true_or_false}
use Rattle.point_order.specs.Sets.{IsIn}
use Rattle.point_order.specs.Facets.{facets_of, points_of}
use Rattle.point_order.specs.declared.cell.Cell.{Cell}
use Rattle.point_order.specs.declared.cell.Cell.TheVariants.{Full, Open}
use Rattle.point_order.specs.declared.cell.Facet.{Facet}
use Rattle.point_order.specs.declared.cell.Facet.TheVariants.{Three, Two}
use Rattle.point_order.proofs.Cited.{in_ascending_from}
use Rattle.del_laws.specs.Cells.{Vertex, point}
use Rattle.hole_laws.proofs.Tests.{Insertion, IsRim}
use Rattle.hole_laws.specs.Lists.{cell_over, Goes, IsRimFacet, IsOverRim}
use Rattle.hole_laws.proofs.Vertex.{has_vertex, has_vertices, IsOrdered, HasListed, ListsCells, IsFacetVertex}
use Rattle.hole_laws.proofs.Order.{AreFourVertices}
use Rattle.hole_laws.proofs.Rims.{new_has_rim, rim_makes_new}
use Rattle.hole_laws.proofs.FacetVertices.{IsAgainst, HasAgainst, AgainstSome, facet_against, against_of, facet_from}
use Rattle.hole_laws.proofs.FacetVertices.{shared_facet, over_facet}
use Rattle.hole_laws.proofs.Listed.{four_of, corners, cell_of, listed_of, goes_test, test_goes}

-- the points of a cell are its vertices
pub point_vertex : (q : Cell) (e : ℕ) → IsIn e (points_of q) → has_vertex q (point e) ≡ true
point_vertex (Full l) e m = among_true e l m
point_vertex (Open l) e m = among_true e l m

-- and back
pub vertex_point : (q : Cell) (e : ℕ) → has_vertex q (point e) ≡ true → IsIn e (points_of q)
vertex_point (Full l) e h = among_from e l h
vertex_point (Open l) e h = among_from e l h

-- a vertex that a cell has is another than one that it has not
not_it : (q : Cell) (v u : Vertex) → has_vertex q v ≡ true → has_vertex q u ≡ false → v ≢ u
not_it q v u h n e = false≢true (sym n ∙ ap (has_vertex q) (sym e) ∙ h)

-- the cell over a facet has the point
pub over_has_point : (f : Facet) (p : ℕ) → IsIn p (points_of (cell_over f p))
over_has_point (Three t) p = in_ascending_from (p ∷ t) p (inl refl)
over_has_point (Two t) p = in_ascending_from (p ∷ t) p (inl refl)

module _ (c c' : Vertex → Vertex → Vertex → Vertex → Bool) (p : ℕ) (k : Insertion c c' (point p)) (l l' : List Cell)
    (t : ListsCells l c) (t' : ListsCells l' c') where
  -- a listed cell of the set has not the new point
  pub without_new : (q : Cell) → IsIn q l → has_vertex q (point p) ≡ true → ⊥
  without_new q m h =
      let a = (facet_against q (t.ordered q m) (point p) h).against in
      false≢true (sym (k.absent a.t1 a.t2 a.t3) ∙ cell_of c k.before l t q m a.t1 a.t2 a.t3 (point p) a.four a.vertices)

  -- a cell that is new has it
  pub new_has_point : (q : Cell) → IsIn q l' → ¬ (IsIn q l) → has_vertex q (point p) ≡ true
  new_has_point q m n = elim (true_or_false (has_vertex q (point p))) [
    | inl e ↦ e
    | inr e ↦ (
        let v = corners q (t'.ordered q m) in
        let a = four_is (has_vertex q v.w) (has_vertex q v.x) (has_vertex q v.y) (has_vertex q v.z) v.vertices in
        absurd (n (listed_of c k.before l t q (t'.ordered q m) v.w v.x v.y v.z v.four v.vertices
        (k.old v.w v.x v.y v.z (cell_of c' k.after l' t' q m v.w v.x v.y v.z v.four v.vertices)
        (not_it q v.w (point p) a.0 e) (not_it q v.x (point p) a.1 e) (not_it q v.y (point p) a.2 e)
        (not_it q v.z (point p) a.3 e)))))
  ]

  -- so it is the cell of the new point and a rim facet
  pub new_over_rim : (q : Cell) → IsIn q l' → ¬ (IsIn q l) → IsOverRim l l' p q
  new_over_rim q m n = record {
    f = f.f;
    rim = record {
      gone = lost.0;
      goes = lost.1;
      of_gone = subst (λ v. IsIn v (facets_of lost.0)) (sym (shared_facet q lost.0 o (t.ordered lost.0 lost.1.before)
          a.t1 a.t2 a.t3 (point p) r.lost a.four lost_four a.vertices lost.2 f.f lost_facet.f a lost_facet.against))
          lost_facet.against.listed;
      kept = kept;
      stays = record {
        before = kept_before;
        after = listed_of c' k.after l' t' kept (t.ordered kept kept_before) a.t1
            a.t2 a.t3 r.kept kept_four kept_vertices r.kept_after;
      };
      of_kept = subst (λ v. IsIn v (facets_of kept)) (sym (shared_facet q kept o (t.ordered kept kept_before) a.t1 a.t2
          a.t3 (point p) r.kept a.four kept_four a.vertices kept_vertices f.f kept_facet.f a kept_facet.against))
          kept_facet.against.listed;
    };
    is = over_facet q o p h f.f a;
  }
    where
      o : IsOrdered q
      o = t'.ordered q m

      h : has_vertex q (point p) ≡ true
      h = new_has_point q m n

      f : HasAgainst q (point p)
      f = facet_against q o (point p) h

      a : IsAgainst q (point p) f.f
      a = f.against

      -- the rim under it
      r : IsRim c c' a.t1 a.t2 a.t3
      r =
          new_has_rim c c' (point p) k a.t1 a.t2 a.t3 (cell_of c' k.after l' t' q m a.t1 a.t2 a.t3 (point p) a.four
          a.vertices)

      lost : (q : Cell) × Goes l l' q × (has_vertices q a.t1 a.t2 a.t3 r.lost ≡ true)
      lost =
          test_goes c c' p k l l' t t' a.t1 a.t2 a.t3 r.lost (and_not (c a.t1 a.t2 a.t3 r.lost)
          (c' a.t1 a.t2 a.t3 r.lost) r.lost_before r.lost_after)

      lost_four : AreFourVertices a.t1 a.t2 a.t3 r.lost
      lost_four = four_of c k.before a.t1 a.t2 a.t3 r.lost r.lost_before

      lost_facet : HasAgainst lost.0 r.lost
      lost_facet =
          facet_against lost.0 (t.ordered lost.0 lost.1.before) r.lost
          (four_is (has_vertex lost.0 a.t1) (has_vertex lost.0 a.t2) (has_vertex lost.0 a.t3) (has_vertex lost.0 r.lost)
          lost.2).3

      kept : Cell
      kept = (t.found a.t1 a.t2 a.t3 r.kept r.kept_before).q

      kept_before : IsIn kept l
      kept_before = (t.found a.t1 a.t2 a.t3 r.kept r.kept_before).listed

      kept_vertices : has_vertices kept a.t1 a.t2 a.t3 r.kept ≡ true
      kept_vertices = (t.found a.t1 a.t2 a.t3 r.kept r.kept_before).vertices

      kept_four : AreFourVertices a.t1 a.t2 a.t3 r.kept
      kept_four = four_of c k.before a.t1 a.t2 a.t3 r.kept r.kept_before

      kept_facet : HasAgainst kept r.kept
      kept_facet =
          facet_against kept (t.ordered kept kept_before) r.kept (four_is (has_vertex kept a.t1) (has_vertex kept a.t2)
          (has_vertex kept a.t3) (has_vertex kept r.kept) kept_vertices).3

  -- and over each rim facet there is a new cell
  pub over_rim_new : (f : Facet) → IsRimFacet l l' f → IsIn (cell_over f p) l'
  over_rim_new f r =
      subst (λ v. IsIn v l') (over_facet q.q (t'.ordered q.q q.listed) p q_has g.f g.against
      ∙ ap (λ v. cell_over v p) (sym same)) q.listed
    where
      a : AgainstSome r.gone f
      a = against_of r.gone (t.ordered r.gone r.goes.before) f r.of_gone

      b : AgainstSome r.kept f
      b = against_of r.kept (t.ordered r.kept r.stays.before) f r.of_kept

      -- the three vertices of the facet, as the one cell has them
      t1 : Vertex
      t1 = a.against.t1

      t2 : Vertex
      t2 = a.against.t2

      t3 : Vertex
      t3 = a.against.t3

      -- they are vertices of the facet
      of_facet : (v : Vertex) → IsIn v (t1 ∷ t2 ∷ t3 ∷ []) → IsFacetVertex f v
      of_facet v m = facet_from r.gone t1 t2 t3 a.z a.against.four a.against.vertices f a.against v m

      -- so the other cell has them too
      kept_four : AreFourVertices t1 t2 t3 b.z
      kept_four = record {
        wx = a.against.four.wx;
        wy = a.against.four.wy;
        wz = λ e. b.against.apart (of_facet b.z (inl e));
        xy = a.against.four.xy;
        xz = λ e. b.against.apart (of_facet b.z (inr (inl e)));
        yz = λ e. b.against.apart (of_facet b.z (inr (inr (inl e))));
      }

      kept_vertices : has_vertices r.kept t1 t2 t3 b.z ≡ true
      kept_vertices =
          four_true (has_vertex r.kept t1) (has_vertex r.kept t2) (has_vertex r.kept t3) (has_vertex r.kept b.z)
          (b.against.into t1 (of_facet t1 (inl refl))) (b.against.into t2 (of_facet t2 (inr (inl refl))))
          (b.against.into t3 (of_facet t3 (inr (inr (inl refl)))))
          (four_is (has_vertex r.kept b.against.t1) (has_vertex r.kept b.against.t2) (has_vertex r.kept b.against.t3)
          (has_vertex r.kept b.z) b.against.vertices).3

      lost : (c t1 t2 t3 a.z ≡ true) × (c' t1 t2 t3 a.z ≡ false)
      lost =
          and_not_from (c t1 t2 t3 a.z) (c' t1 t2 t3 a.z) (goes_test c c' p k l l' t t' r.gone r.goes t1 t2 t3 a.z
          a.against.four a.against.vertices)

      new : c' t1 t2 t3 (point p) ≡ true
      new = rim_makes_new c c' (point p) k t1 t2 t3 record {
        kept = b.z;
        lost = a.z;
        kept_before = cell_of c k.before l t r.kept r.stays.before t1 t2 t3 b.z kept_four kept_vertices;
        kept_after = cell_of c' k.after l' t' r.kept r.stays.after t1 t2 t3 b.z kept_four kept_vertices;
        lost_before = lost.0;
        lost_after = lost.1;
      }

      q : HasListed l' t1 t2 t3 (point p)
      q = t'.found t1 t2 t3 (point p) new

      q_has : has_vertex q.q (point p) ≡ true
      q_has =
          (four_is (has_vertex q.q t1) (has_vertex q.q t2) (has_vertex q.q t3) (has_vertex q.q (point p)) q.vertices).3

      g : HasAgainst q.q (point p)
      g = facet_against q.q (t'.ordered q.q q.listed) (point p) q_has

      same : f ≡ g.f
      same =
          shared_facet r.gone q.q (t.ordered r.gone r.goes.before) (t'.ordered q.q q.listed) t1 t2 t3 a.z
          (point p) a.against.four (four_of c' k.after t1 t2 t3 (point p) new) a.against.vertices q.vertices f g.f
          a.against g.against

  -- a rim of tests is one of lists
  pub rim_listed : (t1 t2 t3 : Vertex) → IsRim c c' t1 t2 t3 → (f : Facet) × IsRimFacet l l' f
  rim_listed t1 t2 t3 r = (
    lost_facet.f,
    record {
      gone = lost.0;
      goes = lost.1;
      of_gone = lost_facet.against.listed;
      kept = kept.q;
      stays = record {
        before = kept.listed;
        after = listed_of c' k.after l' t' kept.q (t.ordered kept.q kept.listed) t1
            t2 t3 r.kept kept_four kept.vertices r.kept_after;
      };
      of_kept =
          subst (λ v. IsIn v (facets_of kept.q))
          (sym (shared_facet lost.0 kept.q (t.ordered lost.0 lost.1.before) (t.ordered kept.q kept.listed) t1 t2 t3
          r.lost r.kept lost_four kept_four lost.2 kept.vertices lost_facet.f kept_facet.f lost_facet.against
          kept_facet.against))
          kept_facet.against.listed;
    },
  )
    where
      lost : (q : Cell) × Goes l l' q × (has_vertices q t1 t2 t3 r.lost ≡ true)
      lost =
          test_goes c c' p k l l' t t' t1 t2 t3 r.lost (and_not (c t1 t2 t3 r.lost) (c' t1 t2 t3 r.lost) r.lost_before
          r.lost_after)

      lost_four : AreFourVertices t1 t2 t3 r.lost
      lost_four = four_of c k.before t1 t2 t3 r.lost r.lost_before

      lost_facet : HasAgainst lost.0 r.lost
      lost_facet =
          facet_against lost.0 (t.ordered lost.0 lost.1.before) r.lost
          (four_is (has_vertex lost.0 t1) (has_vertex lost.0 t2) (has_vertex lost.0 t3) (has_vertex lost.0 r.lost)
          lost.2).3

      kept : HasListed l t1 t2 t3 r.kept
      kept = t.found t1 t2 t3 r.kept r.kept_before

      kept_four : AreFourVertices t1 t2 t3 r.kept
      kept_four = four_of c k.before t1 t2 t3 r.kept r.kept_before

      kept_facet : HasAgainst kept.q r.kept
      kept_facet =
          facet_against kept.q (t.ordered kept.q kept.listed) r.kept
          (four_is (has_vertex kept.q t1) (has_vertex kept.q t2) (has_vertex kept.q t3) (has_vertex kept.q r.kept)
          kept.vertices).3
