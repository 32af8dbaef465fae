-- Two changes of cells, one after the other.
use Rattle.std.specs.Prelude.{◌≡◌, List, []}
use Rattle.std.proofs.Common.{inl, inr, refl, subst, sym}
use Rattle.point_order.specs.declared.cell.Cell.{Cell}
use Rattle.point_order.specs.Sets.{IsIn}
use Rattle.list_laws.specs.Lists.{Gathers}
use Rattle.point_order.proofs.Cited.{cell_in_or_not}
use Rattle.cell_changes.specs.Changes.{IsChange}
use Rattle.cavity.specs.Both.{AreOfBoth, IsOtherThan}

-- what two steps gathered
pub gathered_both : (first but second but2 none mid list : List Cell) → none ≡ [] →
    Gathers (IsOtherThan but) first none mid → Gathers (IsOtherThan but2) second mid list →
    AreOfBoth first but second but2 list
gathered_both first but second but2 none mid list e f g = record {
  each = λ c i. elim (g.each c i) [
    | inl j ↦ elim (f.each c j) [ inl k ↦ absurd (subst (IsIn c) e k) | inr r ↦ inl (from but first c r) ]
    | inr r ↦ inr (from but2 second c r)
  ];
  one = λ c i n. g.kept c (f.all c i c (refl, n));
  other = λ c i n. g.all c i c (refl, n);
}
  where
    from : (b l : List Cell) (c : Cell) → ((x : Cell) × IsIn x l × IsOtherThan b x c) → IsIn c l × (IsIn c b → ⊥)
    from b l c r = (subst (λ (y : Cell). IsIn y l) r.2.0 r.1, λ m. r.2.1 (subst (λ (y : Cell). IsIn y b) (sym r.2.0) m))

-- the two changes are one
pub one_change : (s t u gone fresh gone2 fresh2 went came : List Cell) → AreOfBoth gone fresh2 gone2 fresh went →
    AreOfBoth fresh gone2 fresh2 gone came → IsChange s t gone fresh → IsChange t u gone2 fresh2 →
    IsChange s u went came
one_change s t u gone fresh gone2 fresh2 went came p q a b = record {
  went = λ c i. elim (p.each c i) [
    | inl r ↦ (let w = a.went c r.0 in (w.0, λ k. r.1 (b.all_fresh c k w.1)))
    | inr r ↦ (let w = b.went c r.0 in (
      elim (cell_in_or_not c s) [ inl k ↦ k | inr n ↦ absurd (r.1 (a.all_fresh c w.0 n)) ],
      w.1,
    ))
  ];
  all_gone = λ c i n. elim (cell_in_or_not c t) [
    | inl k ↦ p.other c (b.all_gone c k n) (λ f. (a.came c f).1 i)
    | inr k ↦ p.one c (a.all_gone c i k) (λ f. n (b.came c f).0)
  ];
  came = λ c i. elim (q.each c i) [
    | inl r ↦ (let w = a.came c r.0 in (
      elim (cell_in_or_not c u) [ inl k ↦ k | inr n ↦ absurd (r.1 (b.all_gone c w.0 n)) ],
      w.1,
    ))
    | inr r ↦ (let w = b.came c r.0 in (w.0, λ k. r.1 (a.all_gone c k w.1)))
  ];
  all_fresh = λ c i n. elim (cell_in_or_not c t) [
    | inl k ↦ q.one c (a.all_fresh c k n) (λ f. (b.went c f).1 i)
    | inr k ↦ q.other c (b.all_fresh c i k) (λ f. n (a.went c f).0)
  ];
}
