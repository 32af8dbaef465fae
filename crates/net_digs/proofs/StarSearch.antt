-- Crossing the facets of found cells at a point.
use Rattle.std.specs.Prelude.{◌≡◌, ◌↔◌, ℕ, ◌+◌, ◌<◌, ◌≤◌, List, [], ◌∷◌, ◌++◌, length, take, slice_index_or}
use Rattle.std.specs.List.{flat_map}
use Rattle.std.proofs.Common.{refl, sym, ap, ◌∙◌, subst, inl, inr, arith, append-nil}
use Rattle.std.proofs.lemmas.Grind.{flat_map-append}
use Rattle.std.proofs.lemmas.List.{take-append-le, take_all}
use Rattle.list_laws.specs.Lists.{AreDistinct}
use Rattle.list_laws.proofs.Cited.{from_append, in_flat, in_left, in_right, take_next}
use Rattle.point_order.specs.declared.cell.Cell.{Cell}
use Rattle.point_order.specs.declared.cell.Facet.{Facet}
use Rattle.point_order.specs.Facets.{facets_of, points_on}
use Rattle.point_order.specs.Complex.{complex}
use Rattle.point_order.specs.Sets.{IsIn}
use Rattle.hole_laws.specs.Digs.{facets_of_first}
use Rattle.hole_laws.specs.Edits.{IsSet}
use Rattle.hole_laws.specs.Others.{IsOtherOf}
use Rattle.hole_laws.specs.Stars.{IsCellAt}
use Rattle.hole_laws.proofs.Cited.{on_cell, one_of_two, star_connected}
use Rattle.cell_slots.specs.Stars.{AreCrossedAround, AreStarOf, CrossesAround}

module _ (s : List ℕ) (v : ℕ) (crossed : List Facet) (f : Facet) (found : List Cell)
    (t : AreCrossedAround s v crossed found) where
  -- a facet without v
  pub crossed_apart : ¬ (IsIn v (points_on f)) → AreCrossedAround s v (crossed ++ f ∷ []) found
  crossed_apart n = record {
    at = t.at;
    behind = λ g q m on k h. elim (from_append g crossed (f ∷ []) m) [
      | inl j ↦ t.behind g q j on k h
      | inr j ↦ elim j [
        | inl e ↦ absurd (n (subst (λ (x : Facet). IsIn v (points_on x)) (sym e) on))
        | inr none ↦ absurd none
      ]
    ];
  }

  module _ (i : IsSet s) (cell other : Cell) (among : IsIn cell found) (m : IsIn f (facets_of cell))
      (o : IsOtherOf (complex s) cell f other) where
    -- the cells behind a facet with v are the two
    pub crossed_to : (found' : List Cell) → ((q : Cell) → IsIn q found → IsIn q found') →
        ((q : Cell) → IsIn q found' → IsCellAt s v q) → IsIn other found' →
        AreCrossedAround s v (crossed ++ f ∷ []) found'
    crossed_to found' more at there = record {
      at = at;
      behind = λ g q j on k h. elim (from_append g crossed (f ∷ []) j) [
        | inl a ↦ more q (t.behind g q a on k h)
        | inr a ↦ elim a [
          | inl e ↦ elim (one_of_two s i f cell other q (t.at cell among).listed m o.listed o.has o.differs k.listed
              (subst (λ (x : Facet). IsIn x (facets_of q)) (sym e) h)) [
                | inl d ↦ subst (λ (c : Cell). IsIn c found') d (more cell among)
                | inr d ↦ subst (λ (c : Cell). IsIn c found') d there
              ]
          | inr none ↦ absurd none
        ]
      ];
    }

    -- the other was found before
    pub crossed_before : IsIn other found → AreCrossedAround s v (crossed ++ f ∷ []) found
    crossed_before there = crossed_to found (λ q j. j) t.at there

    -- the other is found now
    pub crossed_now : IsIn v (points_on f) → AreCrossedAround s v (crossed ++ f ∷ []) (found ++ other ∷ [])
    crossed_now on = crossed_to (found ++ other ∷ []) (λ q j. in_left q found (other ∷ []) j)
        (λ q j. elim (from_append q found (other ∷ []) j) [
          | inl a ↦ t.at q a
          | inr a ↦ elim a [
            | inl e ↦ subst (λ (c : Cell). IsCellAt s v c) e
                (record { listed = o.listed; has = on_cell s i other o.listed f o.has v on })
            | inr none ↦ absurd none
          ]
        ]) (in_right other found (other ∷ []) (inl refl))

-- ---- cell after cell

-- with it, one more cell is explored
star_further : (n : ℕ) (found found' more : List Cell) (cell : Cell) → n < length found →
    cell ≡ slice_index_or found n cell → found' ≡ found ++ more → take (n + 1) found' ≡ take n found ++ cell ∷ []
star_further n found found' more cell h at e =
    ap (take (n + 1)) e ∙ take-append-le (n + 1) found more (omega (arith, h)) ∙ take_next found n cell h at

-- the facets of the explored cells are those before and those of this one
pub star_on : (s : List ℕ) (v n : ℕ) (found found' : List Cell) (cell : Cell) → n < length found →
    cell ≡ slice_index_or found n cell → ((more : List Cell) × (found' ≡ found ++ more)) →
    CrossesAround s v (facets_of cell) found found' → AreCrossedAround s v (facets_of_first n found) found →
    AreCrossedAround s v (facets_of_first (n + 1) found') found'
star_on s v n found found' cell h at m x k =
    subst (λ (l : List Facet). AreCrossedAround s v l found') (sym (
    ap (flat_map facets_of) (star_further n found found' m.0 cell h at m.1)
    ∙ flat_map-append facets_of (take n found) (cell ∷ []) ∙ ap
    (λ l. flat_map facets_of (take n found) ++ l) (append-nil (facets_of cell)))) (x (facets_of_first n found) k)

-- it begins with a cell at v
pub star_begins : (s : List ℕ) (v : ℕ) (cell : Cell) → IsCellAt s v cell → AreCrossedAround s v [] (cell ∷ [])
star_begins s v cell k = record {
  at = λ q m. elim m [ inl e ↦ subst (λ (c : Cell). IsCellAt s v c) e k | inr none ↦ absurd none ];
  behind = λ f q m on h i. absurd m;
}

-- and ends with all
pub star_all : (s : List ℕ) (v n : ℕ) (found : List Cell) (first : Cell) → IsSet s → length found ≤ n →
    IsIn first found → AreCrossedAround s v (facets_of_first n found) found → (q : Cell) →
    IsIn q found ↔ IsCellAt s v q
star_all s v n found first i all begun k q =
    let c = subst (λ (l : List Cell). AreCrossedAround s v (flat_map facets_of l) found) (take_all n found all) k in (
      c.at q,
      λ h. star_connected s v i found (record {
        at = c.at;
        across = λ a b f m kb on fa fb. c.behind f b (in_flat facets_of found a f m fa) on kb fb;
      }) first begun q h,
    )

-- each once, where none was found twice
pub star_found : (s : List ℕ) (v n : ℕ) (found : List Cell) (first : Cell) → IsSet s → length found ≤ n →
    AreDistinct found → IsIn first found → AreCrossedAround s v (facets_of_first n found) found →
    AreStarOf s v found
star_found s v n found first i all d begun k =
    record { star_is = star_all s v n found first i all begun k; once = d }
