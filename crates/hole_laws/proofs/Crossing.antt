-- Crossing a facet of a found cell: the cell behind it is found, or the facet is one of the rim.
use Rattle.std.specs.Prelude.{◌≡◌, ℕ, List, [], ◌∷◌, ◌++◌, ◌⊎◌}
use Rattle.std.proofs.Common.{refl, sym, subst, inl, inr}
use Rattle.list_laws.specs.Lists.{AreDistinct}
use Rattle.list_laws.proofs.Cited.{distinct_push, from_append, in_left, in_right}
use Rattle.point_order.specs.declared.cell.Cell.{Cell}
use Rattle.point_order.specs.declared.cell.Facet.{Facet}
use Rattle.point_order.specs.Complex.{complex}
use Rattle.point_order.specs.Facets.{facets_of}
use Rattle.point_order.specs.Sets.{IsIn, with_point}
use Rattle.hole_laws.specs.Edits.{IsSolidSet, GoesFrom, StaysFrom, IsRimOf}
use Rattle.hole_laws.specs.Others.{IsOtherOf}
use Rattle.hole_laws.specs.Digs.{AreCrossed, AreUncrossed, IsCrossedAt}
use Rattle.hole_laws.proofs.Standing.{one_of_two}

module _ (s : List ℕ) (p : ℕ) (i : IsSolidSet s) (crossed : List Facet) (cell other : Cell) (f : Facet)
    (found : List Cell) (rim : List Facet)
    (t : IsCrossedAt s p crossed cell found rim) (m : IsIn f (facets_of cell))
    (o : IsOtherOf (complex s) cell f other) where
  -- the found cell goes
  goes_here : GoesFrom s p cell
  goes_here = t.so_far.goes cell t.among

  -- a cell on the facet is one of the two
  one_of : (q : Cell) → IsIn q (complex s) → IsIn f (facets_of q) → (cell ≡ q) ⊎ (other ≡ q)
  one_of q k n = one_of_two s i.set f cell other q goes_here.before m o.listed o.has o.differs k n

  -- where both go, the facet is none of the rim
  no_rim : GoesFrom s p other → ¬ (IsRimOf s p f)
  no_rim g r = elim (one_of r.kept r.stays.before r.of_kept) [
    | inl e ↦ goes_here.after (subst (λ (q : Cell). IsIn q (complex (with_point p s))) (sym e) r.stays.after)
    | inr e ↦ g.after (subst (λ (q : Cell). IsIn q (complex (with_point p s))) (sym e) r.stays.after)
  ]

  -- The cell behind goes, and is one of a longer list of cells that go, each once.
  pub crossed_inside : (found' : List Cell) → ((q : Cell) → IsIn q found → IsIn q found') →
      ((q : Cell) → IsIn q found' → GoesFrom s p q) → AreDistinct found' → IsIn other found' →
      AreCrossed s p (crossed ++ f ∷ []) found' rim
  crossed_inside found' more goes once there = record {
    goes = goes;
    behind = λ g q k a b. elim (from_append g crossed (f ∷ []) k) [
      | inl j ↦ more q (t.so_far.behind g q j a b)
      | inr j ↦ elim j [
        | inl e ↦ elim (one_of q a.before (subst (λ (h : Facet). IsIn h (facets_of q)) (sym e) b)) [
          | inl d ↦ subst (λ (c : Cell). IsIn c found') d (more cell t.among)
          | inr d ↦ subst (λ (c : Cell). IsIn c found') d there
        ]
        | inr none ↦ absurd none
      ]
    ];
    rim_is = λ g. (
      λ k. (let r = (t.so_far.rim_is g).0 k in (in_left g crossed (f ∷ []) r.0, r.1)),
      λ r. elim (from_append g crossed (f ∷ []) r.0) [
        | inl j ↦ (t.so_far.rim_is g).1 (j, r.1)
        | inr j ↦ elim j [
          | inl e ↦ absurd (no_rim (goes other there) (subst (λ (h : Facet). IsRimOf s p h) (sym e) r.1))
          | inr none ↦ absurd none
        ]
      ],
    );
    found_once = once;
    rim_once = t.so_far.rim_once;
  }

  -- the cell behind was found before
  pub crossed_found : IsIn other found → AreCrossed s p (crossed ++ f ∷ []) found rim
  crossed_found k = crossed_inside found (λ q j. j) t.so_far.goes t.so_far.found_once k

  -- the cell behind goes, and is found now
  pub crossed_goes : ¬ (IsIn other found) → GoesFrom s p other →
      AreCrossed s p (crossed ++ f ∷ []) (found ++ other ∷ []) rim
  crossed_goes n g =
      crossed_inside (found ++ other ∷ []) (λ q j. in_left q found (other ∷ []) j)
      (λ q j. elim (from_append q found (other ∷ []) j) [
        | inl k ↦ t.so_far.goes q k
        | inr k ↦ elim k [ inl e ↦ subst (λ (c : Cell). GoesFrom s p c) e g | inr none ↦ absurd none ]
      ]) (distinct_push found other t.so_far.found_once n) (in_right other found (other ∷ []) (inl refl))

  -- the cell behind stays: the facet is one of the rim
  rim_here : StaysFrom s p other → IsRimOf s p f
  rim_here k = record { gone = cell; goes = goes_here; of_gone = m; kept = other; stays = k; of_kept = o.has }

  -- and is listed
  pub crossed_stays : AreUncrossed s p crossed (f ∷ []) → StaysFrom s p other →
      AreCrossed s p (crossed ++ f ∷ []) found (rim ++ f ∷ [])
  crossed_stays u k = record {
    goes = t.so_far.goes;
    behind = λ g q j a b. elim (from_append g crossed (f ∷ []) j) [
      | inl l ↦ t.so_far.behind g q l a b
      | inr l ↦ elim l [
        | inl e ↦ elim (one_of q a.before (subst (λ (h : Facet). IsIn h (facets_of q)) (sym e) b)) [
          | inl d ↦ subst (λ (c : Cell). IsIn c found) d t.among
          | inr d ↦ absurd (a.after (subst (λ (c : Cell). IsIn c (complex (with_point p s))) d k.after))
        ]
        | inr none ↦ absurd none
      ]
    ];
    rim_is = λ g. (
      λ j. elim (from_append g rim (f ∷ []) j) [
        | inl l ↦ (let r = (t.so_far.rim_is g).0 l in (in_left g crossed (f ∷ []) r.0, r.1))
        | inr l ↦ elim l [
          | inl e ↦ (in_right g crossed (f ∷ []) (inl e), subst (λ (h : Facet). IsRimOf s p h) e (rim_here k))
          | inr none ↦ absurd none
        ]
      ],
      λ r. elim (from_append g crossed (f ∷ []) r.0) [
        | inl l ↦ in_left g rim (f ∷ []) ((t.so_far.rim_is g).1 (l, r.1))
        | inr l ↦ in_right g rim (f ∷ []) l
      ],
    );
    found_once = t.so_far.found_once;
    rim_once = distinct_push rim f t.so_far.rim_once (λ l. u f (inl refl) (rim_here k) ((t.so_far.rim_is f).0 l).0);
  }
