-- The cells that fill the hole of a dig that is done.
use Rattle.std.specs.Prelude.{◌≡◌, ℕ, ◌+◌, ◌<◌, List, [], ◌∷◌, ◌++◌, length, map, slice_index_or, take, IsSome}
use Rattle.std.specs.List.{flat_map}
use Rattle.std.proofs.Common.{sym, ◌∙◌, ap, subst, inl, inr}
use Rattle.std.proofs.lemmas.List.{map-append, take_all}
use Rattle.list_laws.proofs.Cited.{distinct_map, in_flat, mapped_from, mapped_true, take_next}
use Rattle.point_order.specs.declared.cell.Cell.{Cell}
use Rattle.point_order.specs.declared.cell.Facet.{Facet}
use Rattle.point_order.specs.Facets.{facets_of}
use Rattle.point_order.specs.Sets.{IsIn}
use Rattle.del_laws.proofs.Cited.{listed_inside, listed_is_cell}
use Rattle.hole_laws.specs.Lists.{cell_over}
use Rattle.hole_laws.specs.Edits.{GoesFrom, IsRimOf, IsFresh}
use Rattle.hole_laws.proofs.Cited.{cells_after, fresh_are_near, fresh_have_point, old_lack_point, one_fresh_each}
use Rattle.hole_laws.proofs.Cited.{region_connected, on_cell}
use Rattle.bucket_grid.specs.Grids.{bucket_of}
use Rattle.cell_store.specs.Buckets.{bucket_at}
use Rattle.cavity.specs.Digs.{Digging, IsDoneIn}
use Rattle.hole_laws.specs.Digs.{AreCrossed, IsFacetApart}
use Rattle.cavity.specs.Fills.{IsFilled, FreshAreHeld}

module _ (s : List ℕ) (d : Digging) (k : IsDoneIn s d) where
  -- the facets of all found cells were crossed
  all_crossed : AreCrossed s d.point (flat_map facets_of d.found) d.found d.rim
  all_crossed = subst (λ (l : List Cell). AreCrossed s d.point (flat_map facets_of l) d.found d.rim)
      (take_all d.explored d.found k.all) k.dig.crossed

  -- so every cell that goes was found
  pub all_found : (q : Cell) → GoesFrom s d.point q → IsIn q d.found
  all_found q g = region_connected s d.point k.solid k.dig.new d.found (record {
    goes = all_crossed.goes;
    across = λ a b f m n i j. all_crossed.behind f b (in_flat facets_of d.found a f m i) n j;
  }) k.dig.first k.dig.begun q g

  -- every rim facet is listed
  all_rim : (f : Facet) → IsRimOf s d.point f → IsIn f d.rim
  all_rim f r = (all_crossed.rim_is f).1 (in_flat facets_of d.found r.gone f (all_found r.gone r.goes) r.of_gone, r)

  -- the cells over the rim facets
  abbrev over : Facet → Cell
  over f = cell_over f d.point

  -- each is fresh
  over_fresh : (q : Cell) → IsIn q (map over d.rim) → IsFresh s d.point q
  over_fresh q m = let r = mapped_from over q d.rim m in
      record { f = r.0; rim = ((all_crossed.rim_is r.0).0 r.1).1; is = sym r.2 }

  -- the cells of the hole, and those that fill it
  pub filled : IsFilled s d.point d.found (map over d.rim)
  filled = record {
    change = record {
      went = λ q m. (let g = all_crossed.goes q m in (g.before, g.after));
      all_gone = λ q m n. all_found q (record { before = m; after = n });
      came = λ q m. (
          let f = over_fresh q m in
          let l = (cells_after s d.point k.solid k.dig.new q).1 (inr f) in (
            l,
            λ j. old_lack_point s d.point k.solid k.dig.new q j
                ((fresh_have_point s d.point k.solid k.dig.new q l).0 f),
          ));
      all_fresh = λ q m n. elim ((cells_after s d.point k.solid k.dig.new q).0 m) [
        | inl t ↦ absurd (n t.before)
        | inr f ↦ subst (λ (c : Cell). IsIn c (map over d.rim)) (sym f.is)
            (mapped_true over f.f d.rim (all_rim f.f f.rim))
      ];
    };
    gone_once = all_crossed.found_once;
    fresh_once = distinct_map over d.rim (λ f g m n e. one_fresh_each s d.point k.solid k.dig.new f g
        ((all_crossed.rim_is f).0 m).1 ((all_crossed.rim_is g).0 n).1 e) all_crossed.rim_once;
  }

  -- a rim facet does not have the point
  pub rim_apart : (f : Facet) → IsIn f d.rim → IsFacetApart f d.point
  rim_apart f m =
      let r = ((all_crossed.rim_is f).0 m).1 in (
        r.gone,
        r.of_gone,
        λ i. k.dig.new.absent
            (listed_inside s r.gone (listed_is_cell s r.gone k.solid.set.ascending r.goes.before) d.point
            (on_cell s k.solid.set r.gone r.goes.before f r.of_gone d.point i)),
      )

-- the buckets of the fresh cells are in hand with those of the gone ones and of the point
pub fresh_are_held : FreshAreHeld
fresh_are_held s p gone fresh hold i n f held here c m e k =
    let r = f.change.came c m in
    elim ((cells_after s p i n c).0 r.0) [
      | inl t ↦ absurd (r.1 t.before)
      | inr q ↦ elim (fresh_are_near s p i n c q e k) [
        | inl same ↦ subst (λ (v : ℕ). IsSome (bucket_at hold.places (bucket_of hold.grid v))) (sym same) here
        | inr g ↦ held g.q (f.change.all_gone g.q g.goes.before g.goes.after) e g.has
      ]
    ]

-- the first cells and the next
pub cells_more : (cells : List Cell) (i : ℕ) (at x : Cell) (before after : List Cell) → i < length cells →
    at ≡ slice_index_or cells i at → x ≡ at → before ≡ take i cells → after ≡ before ++ x ∷ [] →
    after ≡ take (i + 1) cells
cells_more cells i at x before after h e q b a =
    a ∙ ap (λ l. l ++ x ∷ []) b ∙ ap (λ y. take i cells ++ y ∷ []) q ∙ sym (take_next cells i at h e)

-- the fresh cells of the first facets and of the next
pub fresh_more : (p : ℕ) (facets : List Facet) (i : ℕ) (at : Facet) (x : Cell) (before after : List Cell) →
    i < length facets → at ≡ slice_index_or facets i at → x ≡ cell_over at p →
    before ≡ map (λ f. cell_over f p) (take i facets) → after ≡ before ++ x ∷ [] →
    after ≡ map (λ f. cell_over f p) (take (i + 1) facets)
fresh_more p facets i at x before after h e q b a =
    let over : Facet → Cell = λ f. cell_over f p in
    a ∙ ap (λ l. l ++ x ∷ []) b ∙ ap (λ y. map over (take i facets) ++ y ∷ []) q
    ∙ sym (map-append over (take i facets) (at ∷ [])) ∙ ap (map over) (sym (take_next facets i at h e))
