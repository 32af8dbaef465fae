-- The first of the points that share a cell with a point; and where it is the point itself, the nearest of all.
use Rattle.std.specs.Prelude.{◌≡◌, refl, ℕ, true, false, List, ◌∷◌, ◌⊎◌, ◌↔◌}
use Rattle.std.specs.List.{filter}
use Rattle.std.proofs.Common.{inl, inr, sym, subst, ◌∙◌}
use Rattle.list_laws.proofs.Cited.{among_from, among_true, false_if, filtered_from, filtered_true, not_both}
use Rattle.point_order.specs.declared.cell.Cell.{Cell}
use Rattle.point_order.specs.declared.cell.Cell.TheVariants.{Full}
use Rattle.point_order.specs.Complex.{complex}
use Rattle.point_order.specs.Facets.{points_of}
use Rattle.point_order.specs.Sets.{IsIn, is_among}
use Rattle.del_laws.specs.Nearest.{comes_before}
use Rattle.del_laws.proofs.Cited.{listed_every_point, listed_inside, listed_is_cell}
use Rattle.del_laws.proofs.NearestPoints.{nearest_by_cells}
use Rattle.cell_store.specs.Buckets.{InHand}
use Rattle.cell_store.specs.Shares.{Shows}
use Rattle.nearest_points.specs.Points.{IsFirstOf, IsNearest}
use Rattle.near_vertex.specs.Around.{ShareACell, IsFirstAround}
use Rattle.nearest_points.proofs.Cited.{not_before_chain, one_before}

-- ---- the search

-- the first of p and the points of the cells of a list, but for the rest of it
pub record IsFirstSo (q p : ℕ) (l rest : List Cell) (x : ℕ) : Type 0 where
  pub among : (d : Cell) → IsIn d rest → IsIn d l
  pub from : (x ≡ p) ⊎ ((d : Cell) × IsIn d l × IsIn x (points_of d))
  pub own : comes_before q p x ≡ false
  pub first : (d : Cell) → IsIn d l → IsIn d rest ⊎ ((y : ℕ) → IsIn y (points_of d) → comes_before q y x ≡ false)

-- one more cell
pub one_more : (q p : ℕ) (l m rest : List Cell) (d : Cell) (x n : ℕ) → m ≡ d ∷ rest → IsFirstSo q p l m x →
    IsFirstOf q (x ∷ points_of d) n → IsFirstSo q p l rest n
one_more q p l m rest d x n e k f = record {
  among = λ c i. k.among c (subst (λ (v : List Cell). IsIn c v) (sym e) (inr i));
  from = elim f.among [
    | inl g ↦ elim k.from [
      | inl h ↦ inl (sym g ∙ h)
      | inr r ↦ inr (r.0, r.1, subst (λ v. IsIn v (points_of r.0)) g r.2)
    ]
    | inr i ↦ inr (d, k.among d (subst (λ (v : List Cell). IsIn d v) (sym e) (inl refl)), i)
  ];
  own = not_before_chain q p x n k.own (f.first x (inl refl));
  first = λ c i. elim (k.first c i) [
    | inl j ↦ elim (subst (λ (v : List Cell). IsIn c v) e j) [
      | inl h ↦ inr (λ y o. f.first y (inr (subst (λ v. IsIn y (points_of v)) (sym h) o)))
      | inr r ↦ inl r
    ]
    | inr g ↦ inr (λ y o. not_before_chain q y x n (g y o) (f.first x (inl refl)))
  ];
}

-- the cells at p, listed, are all that have it
pub first_of_all : (s : List ℕ) (q p : ℕ) (l rest : List Cell) (x : ℕ) (hold : InHand) → Shows hold s → IsIn p s →
    ((c : Cell) → IsIn c l ↔ IsIn c (filter (λ c. is_among p (points_of c)) (complex s))) →
    ((d : Cell) → ¬ (IsIn d rest)) → IsFirstSo q p l rest x → IsFirstAround s q p x
first_of_all s q p l rest x hold st m all none k = record {
  beside = elim k.from [
    | inl e ↦ subst (λ v. ShareACell s p v) (sym e) itself
    | inr r ↦ (let i = at r.0 r.1 in record { cell = r.0; listed = i.0; has = i.1; other = r.2 })
  ];
  first = λ y b. elim (k.first b.cell ((all b.cell).1 (filtered_true (λ c. is_among p (points_of c)) (complex s) b.cell
      b.listed (among_true p (points_of b.cell) b.has)))) [
        | inl j ↦ absurd (none b.cell j)
        | inr g ↦ g y b.other
      ];
}
  where
    -- a listed cell of the list has p
    at : (c : Cell) → IsIn c l → IsIn c (complex s) × IsIn p (points_of c)
    at c i = let f = filtered_from (λ c. is_among p (points_of c)) (complex s) c ((all c).0 i) in
        (f.0, among_from p (points_of c) f.1)

    -- p is in some cell
    itself : ShareACell s p p
    itself = let h = listed_every_point s p st.ascending st.keys st.solid m in record
        { cell = Full h.q; listed = h.listed; has = h.has; other = h.has }

-- ---- the nearest

-- a point that shares a cell is one of the set
pub beside_in : (s : List ℕ) (p x : ℕ) (hold : InHand) → Shows hold s → ShareACell s p x → IsIn x s
beside_in s p x hold st b = listed_inside s b.cell (listed_is_cell s b.cell st.ascending b.listed) x b.other

-- where no point that shares a cell with p comes before it, none of the set does
pub here_nearest : (hold : InHand) (s : List ℕ) (q p : ℕ) → Shows hold s → IsIn p s → IsFirstAround s q p p →
    IsNearest s q p
here_nearest hold s q p st m f = record {
  among = m;
  first = λ e i. false_if (comes_before q e p) (λ t. (
      let h = nearest_by_cells s q p e st.ascending st.keys st.solid m i t in
      not_both (comes_before q h.other p) h.nearer (f.first h.other
      (record { cell = h.cell; listed = h.listed; has = h.has; other = h.shares }))));
}

-- another first one comes before
pub moved_before : (s : List ℕ) (q p x : ℕ) (hold : InHand) → Shows hold s → IsIn p s → ¬ (x ≡ p) →
    IsFirstAround s q p x → comes_before q x p ≡ true
moved_before s q p x hold st m n f =
    let h = listed_every_point s p st.ascending st.keys st.solid m in
    one_before q p x (λ e. n (sym e)) (f.first p (record {
      cell = Full h.q;
      listed = h.listed;
      has = h.has;
      other =
          h.has;
    }))
