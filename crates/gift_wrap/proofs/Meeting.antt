-- Facets that are met: for the first time, or from their other side.
use Rattle.std.specs.Prelude.{◌≡◌, List, ◌∷◌, [], ◌++◌}
use Rattle.std.specs.List.Sorted.{IsPermutation}
use Rattle.std.proofs.Common.{refl, sym, ◌∙◌, ap, subst, inl, inr}
use Rattle.std.proofs.lemmas.List.Sorted.{IsPermutation-sym}
use Rattle.list_laws.proofs.Cited.{from_append, in_left, in_moved, in_right}
use Rattle.point_order.specs.declared.cell.Facet.{Facet}
use Rattle.point_order.specs.Sets.{IsIn}
use Rattle.gift_wrap.specs.Wraps.{AreMet}
use Rattle.gift_wrap.specs.declared.wrap.Side.{Side}

-- one more is met, which is none of those before
pub one_met : (facets : List Facet) (f : Facet) (old now new : List Side) → ¬ (IsIn f facets) → AreMet facets old now →
    AreMet (f ∷ []) now new → AreMet (facets ++ f ∷ []) old new
one_met facets f old now new apart a b = record {
  each = λ g m. elim (from_append g facets (f ∷ []) m) [
    | inl n ↦ elim (a.each g n) [
      | inl o ↦ inl o
      | inr o ↦ elim (b.went o.side o.among) [
        | inl p ↦ inr (record { side = o.side; among = p; is = o.is })
        | inr p ↦ absurd (apart (subst (λ (x : Facet). IsIn x facets) (sym (only p ∙ o.is)) n))
      ]
    ]
    | inr n ↦ elim n [
      | inl e ↦ elim (b.each f (inl refl)) [
        | inl o ↦ elim (a.came o.side o.among) [
          | inl p ↦ inl (record { side = o.side; among = p; is = o.is ∙ e })
          | inr p ↦ absurd (apart (subst (λ (x : Facet). IsIn x facets) o.is p))
        ]
        | inr o ↦ inr (record { side = o.side; among = o.among; is = o.is ∙ e })
      ]
      | inr none ↦ absurd none
    ]
  ];
  came = λ s m. elim (b.came s m) [
    | inl n ↦ elim (a.came s n) [ inl p ↦ inl p | inr p ↦ inr (in_left s.facet facets (f ∷ []) p) ]
    | inr n ↦ inr (in_right s.facet facets (f ∷ []) n)
  ];
  went = λ s m. elim (a.went s m) [
    | inl n ↦ elim (b.went s n) [ inl p ↦ inl p | inr p ↦ inr (in_right s.facet facets (f ∷ []) p) ]
    | inr n ↦ inr (in_left s.facet facets (f ∷ []) n)
  ];
}
  where
    only : {g : Facet} → IsIn g (f ∷ []) → f ≡ g
    only (inl e) = e
    only (inr none) = absurd none

-- a facet is met for the first time
pub met_first : (old : List Side) (side : Side) → AreMet (side.facet ∷ []) old (old ++ side ∷ [])
met_first old side = record {
  each = λ f m. elim m [
    | inl e ↦ inr (record { side = side; among = in_right side old (side ∷ []) (inl refl); is = e })
    | inr none ↦ absurd none
  ];
  came = λ s m. elim (from_append s old (side ∷ []) m) [
    | inl n ↦ inl n
    | inr n ↦ elim n [ inl e ↦ inr (inl (ap (λ (x : Side). x.facet) e)) | inr none ↦ absurd none ]
  ];
  went = λ s m. inl (in_left s old (side ∷ []) m);
}

-- or from its other side
pub met_again : (old new : List Side) (f : Facet) (other : Side) → other.facet ≡ f → IsPermutation old (other ∷ new) →
    AreMet (f ∷ []) old new
met_again old new f other e p = record {
  each = λ g m. elim m [
    | inl q ↦ inl (record { side = other; among = in_moved old (other ∷ new) other p (inl refl); is = e ∙ q })
    | inr none ↦ absurd none
  ];
  came = λ s m. inl (in_moved old (other ∷ new) s p (inr m));
  went = λ s m. elim (in_moved (other ∷ new) old s (IsPermutation-sym old (other ∷ new) p) m) [
    | inl q ↦ inr (inl (sym e ∙ ap (λ (x : Side). x.facet) q))
    | inr n ↦ inl n
  ];
}
