-- Cells across the facets of the cells at a point.
use Rattle.std.specs.Prelude.{◌≡◌, ℕ, ◌+◌, ◌<◌, List, [], ◌∷◌, ◌++◌, length, take, slice_index_or}
use Rattle.std.proofs.Common.{sym, subst, inl, inr}
use Rattle.list_laws.proofs.Cited.{at_place, from_append, in_left, in_right, in_take_more}
use Rattle.point_order.specs.declared.cell.Cell.{Cell}
use Rattle.point_order.specs.declared.cell.Facet.{Facet}
use Rattle.point_order.specs.Complex.{complex}
use Rattle.point_order.specs.Facets.{facets_of, points_of}
use Rattle.point_order.specs.Sets.{IsIn}
use Rattle.hole_laws.specs.Edits.{IsSet}
use Rattle.hole_laws.specs.Others.{IsOtherOf}
use Rattle.hole_laws.proofs.Cited.{one_of_two}
use Rattle.gift_wrap.specs.Near.{AreAdded, IsListedOf, IsOfOne}

module _ (s : List ℕ) (v : ℕ) where
  -- where nothing was crossed, nothing needs to be added
  pub none_crossed : (cell : Cell) (old : List Cell) → AreAdded s v (IsListedOf cell []) old old
  none_crossed cell old = record { kept = λ c m. m; listed = λ c m. inl m; across = λ here f c r o n. absurd r.1 }

  -- a list with nothing added is itself
  pub none_met : (old : List Cell) → AreAdded s v (IsOfOne []) old old
  none_met old = record { kept = λ c m. m; listed = λ c m. inl m; across = λ here f c r o n. absurd r.0 }

  module _ (i : IsSet s) (cell : Cell) (at : IsIn cell (complex s)) (facets : List Facet) (n : ℕ) (f : Facet)
      (h : n < length facets) (is : f ≡ slice_index_or facets n f) (same : facets ≡ facets_of cell) (other : Cell)
      (o : IsOtherOf (complex s) cell f other) where
    -- the facet is one of the cell's
    of_cell : IsIn f (facets_of cell)
    of_cell = subst (λ (l : List Facet). IsIn f l) same (at_place facets n f f h is)

    -- no other cell is across it
    only : (c : Cell) → IsOtherOf (complex s) cell f c → other ≡ c
    only c k = elim (one_of_two s i f cell other c at of_cell o.listed o.has o.differs k.listed k.has) [
      | inl e ↦ absurd (k.differs (sym e))
      | inr e ↦ e
    ]

    -- the cell across the next facet is added
    pub one_added : (old now : List Cell) → AreAdded s v (IsListedOf cell (take n facets)) old now →
        AreAdded s v (IsListedOf cell (take (n + 1) facets)) old (now ++ other ∷ [])
    one_added old now a = record {
      kept = λ c m. in_left c now (other ∷ []) (a.kept c m);
      listed = λ c m. elim (from_append c now (other ∷ []) m) [
        | inl k ↦ a.listed c k
        | inr k ↦ elim k [ inl e ↦ inr (subst (λ (x : Cell). IsIn x (complex s)) e o.listed) | inr none ↦ absurd none ]
      ];
      across = λ here g c r k lacks. elim (in_take_more facets n f g h is r.1) [
        | inl m ↦ in_left c now (other ∷ []) (a.across here g c (r.0, m) k lacks)
        | inr e ↦ in_right c now (other ∷ []) (inl (only c (subst (λ (x : Facet). IsOtherOf (complex s) cell x c)
            (sym e) (subst (λ (x : Cell). IsOtherOf (complex s) x g c) r.0 k))))
      ];
    }

    -- or it has v
    pub one_passed : (old now : List Cell) → IsIn v (points_of other) →
        AreAdded s v (IsListedOf cell (take n facets)) old now → AreAdded s v (IsListedOf cell (take (n + 1) facets))
        old now
    one_passed old now has a = record {
      kept = a.kept;
      listed = a.listed;
      across = λ here g c r k lacks. elim (in_take_more facets n f g h is r.1) [
        | inl m ↦ a.across here g c (r.0, m) k lacks
        | inr e ↦ absurd (lacks (subst (λ (x : Cell). IsIn v (points_of x))
            (only c (subst (λ (x : Facet). IsOtherOf (complex s) cell x c) (sym e)
            (subst (λ (x : Cell). IsOtherOf (complex s) x g c) r.0 k))) has))
      ];
    }

  -- one more cell is met
  pub one_met : (star : List Cell) (n : ℕ) (cell : Cell) (old now new : List Cell) → n < length star →
      cell ≡ slice_index_or star n cell → AreAdded s v (IsOfOne (take n star)) old now →
      AreAdded s v (IsListedOf cell (facets_of cell)) now new → AreAdded s v (IsOfOne (take (n + 1) star)) old new
  one_met star n cell old now new h is a b = record {
    kept = λ c m. b.kept c (a.kept c m);
    listed = λ c m. elim (b.listed c m) [ inl k ↦ a.listed c k | inr k ↦ inr k ];
    across = λ here f c r k lacks. elim (in_take_more star n cell here h is r.0) [
      | inl m ↦ b.kept c (a.across here f c (m, r.1) k lacks)
      | inr e ↦ b.across here f c (sym e, subst (λ (x : Cell). IsIn f (facets_of x)) (sym e) r.1) k lacks
    ];
  }
