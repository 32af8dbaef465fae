-- A dig goes on, comes to an end, and has found the hole.
use Rattle.std.specs.Prelude.{◌≡◌, ℕ, ◌+◌, ◌<◌, ◌≤◌, List, [], ◌∷◌, ◌++◌, length, take, slice_index_or}
use Rattle.std.specs.List.{flat_map}
use Rattle.std.proofs.Common.{refl, sym, ◌∙◌, ap, subst, inl, inr, arith, append-nil}
use Rattle.std.proofs.lemmas.Grind.{flat_map-append}
use Rattle.std.proofs.lemmas.List.{take-append-le, take_all}
use Rattle.list_laws.proofs.Cited.{apart_place, at_place, flat_from, in_flat, in_left, in_take, take_next}
use Rattle.point_order.specs.declared.cell.Cell.{Cell}
use Rattle.point_order.specs.declared.cell.Facet.{Facet}
use Rattle.point_order.specs.Facets.{facets_of}
use Rattle.point_order.specs.Sets.{IsIn}
use Rattle.hole_laws.specs.Edits.{IsSolidSet, IsNew, GoesFrom, IsRimOf}
use Rattle.hole_laws.proofs.Cited.{one_gone_each, region_connected}
use Rattle.net_digs.specs.Digs.{IsHoleOf}
use Rattle.hole_laws.specs.Digs.{AreCrossed, AreUncrossed, IsDug, IsCrossedAt, Explores, facets_of_first}

module _ (s : List ℕ) (i : IsSolidSet s) (p n : ℕ) (found : List Cell) (rim : List Facet) (k : IsDug s p n found rim)
    (cell : Cell) (h : n < length found) (at : cell ≡ slice_index_or found n cell) where
  -- the next cell was found
  pub next_at : IsCrossedAt s p (facets_of_first n found) cell found rim
  next_at = record { new = k.new; so_far = k.crossed; among = at_place found n cell cell h at }

  -- no rim facet of it was crossed
  pub next_new : AreUncrossed s p (facets_of_first n found) (facets_of cell)
  next_new f m r c =
      let o = flat_from facets_of (take n found) f c in
      let e = one_gone_each s p i k.new f r o.0 cell (k.crossed.goes o.0 (in_take n found o.0 o.1))
      (k.crossed.goes cell next_at.among) o.2 m in
      apart_place found n cell k.crossed.found_once h at (subst (λ (q : Cell). IsIn q (take n found)) e o.1)

  -- with it, one more cell is explored
  one_further : (found' more : List Cell) → found' ≡ found ++ more → take (n + 1) found' ≡ take n found ++ cell ∷ []
  one_further found' more e = ap (take (n + 1)) e ∙ take-append-le (n + 1) found more (omega arith) ∙ take_next found n
      cell h at

  -- the facets of the explored cells are those before and those of this one
  facets_further : (found' more : List Cell) → found' ≡ found ++ more →
      facets_of_first (n + 1) found' ≡ facets_of_first n found ++ facets_of cell
  facets_further found' more e =
      ap (flat_map facets_of) (one_further found' more e) ∙ flat_map-append facets_of (take n found) (cell ∷ []) ∙ ap
      (λ l. flat_map facets_of (take n found) ++ l) (append-nil (facets_of cell))

  -- and it is a dig still
  pub digs_on : (found' : List Cell) (rim' : List Facet) → ((more : List Cell) × (found' ≡ found ++ more)) →
      Explores s p cell found rim found' rim' → IsDug s p (n + 1) found' rim'
  digs_on found' rim' m x =
      let c = x (facets_of_first n found) next_at next_new in
      record {
        new = k.new;
        first = k.first;
        begun = subst (λ (l : List Cell). IsIn k.first l) (sym m.1) (in_left k.first found m.0 k.begun);
        crossed = subst (λ (l : List Facet). AreCrossed s p l found' rim') (sym (facets_further found' m.0 m.1)) c;
      }

-- a dig that begins
pub begins : (s : List ℕ) (p : ℕ) (cell : Cell) → IsNew s p → GoesFrom s p cell → IsDug s p 0 (cell ∷ []) []
begins s p cell new g = record {
  new = new;
  first = cell;
  begun = inl refl;
  crossed = record {
    goes = λ q m. elim m [ inl e ↦ subst (λ (c : Cell). GoesFrom s p c) e g | inr none ↦ absurd none ];
    behind = λ f q m. absurd m;
    rim_is = λ f. (λ m. absurd m, λ r. absurd r.0);
    found_once = (λ m. m, tt);
    rim_once = tt;
  };
}

module _ (s : List ℕ) (i : IsSolidSet s) (p n : ℕ) (found : List Cell) (rim : List Facet) (k : IsDug s p n found rim)
    (all : length found ≤ n) where
  -- the facets of all found cells were crossed
  all_crossed : AreCrossed s p (flat_map facets_of found) found rim
  all_crossed = subst (λ (l : List Cell). AreCrossed s p (flat_map facets_of l) found rim) (take_all n found all)
      k.crossed

  -- so every cell that goes was found
  all_found : (q : Cell) → GoesFrom s p q → IsIn q found
  all_found q g = region_connected s p i k.new found (record {
    goes = all_crossed.goes;
    across = λ a b f m n i j. all_crossed.behind f b (in_flat facets_of found a f m i) n j;
  }) k.first k.begun q g

  -- every rim facet is listed
  all_rim : (f : Facet) → IsRimOf s p f → IsIn f rim
  all_rim f r = (all_crossed.rim_is f).1 (in_flat facets_of found r.gone f (all_found r.gone r.goes) r.of_gone, r)

  -- the hole was found
  pub hole_found : IsHoleOf s p found rim
  hole_found = record {
    gone_is = λ q. (all_crossed.goes q, all_found q);
    rim_is = λ f. (λ m. ((all_crossed.rim_is f).0 m).1, all_rim f);
    gone_once = all_crossed.found_once;
    rim_once = all_crossed.rim_once;
  }
