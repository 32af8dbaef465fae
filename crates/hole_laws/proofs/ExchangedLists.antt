-- The list of the complex after an edit is made from the one before, the list of cells that go and that of new cells.
use Rattle.std.specs.Prelude.{◌≡◌, ℕ, List, ◌⊎◌, ◌↔◌}
use Rattle.std.proofs.Common.{inl, inr}
use Rattle.point_order.specs.Sets.{IsIn, with_point}
use Rattle.point_order.specs.CellOrder.{cell_cmp}
use Rattle.point_order.specs.Complex.{complex}
use Rattle.point_order.specs.declared.cell.Cell.{Cell}
use Rattle.std.specs.List.Sorted.{IsStrictlySortedBy}
use Rattle.del_laws.specs.PointSets.{cell}
use Rattle.del_laws.proofs.Cited.{complex_is_sorted, same_members}
use Rattle.hole_laws.specs.Lists.{Goes}
use Rattle.hole_laws.specs.Edits.{IsSet, IsSolidSet, IsNew, IsFresh}
use Rattle.hole_laws.specs.Laws.{IsExchanged, MadeByInsertion}
use Rattle.hole_laws.proofs.Listed.{decide_listed}
use Rattle.hole_laws.proofs.FromBase.{complex_of}
use Rattle.hole_laws.proofs.OfSets.{set_of, lists_of, more_set}
use Rattle.hole_laws.proofs.Laws.{cells_after, fresh_have_point, old_lack_point}

-- a list in order with the cells of another
pub made :
    (l l' gone fresh m : List Cell) → ((q : Cell) → IsIn q l → IsIn q l' ⊎ (IsIn q l' → ⊥)) →
    ((q : Cell) → IsIn q l' → IsIn q l ⊎ (IsIn q l → ⊥)) →
    IsStrictlySortedBy cell_cmp l' → ((q : Cell) → IsIn q gone ↔ Goes l l' q) →
    ((q : Cell) → IsIn q fresh ↔ (IsIn q l' × ¬ (IsIn q l))) →
    IsExchanged l gone fresh m → m ≡ l'
made l l' gone fresh m d e s g f x = same_members m l' x.sorted s
    (λ q h. elim ((x.members q).0 h) [
      | inl k ↦ elim (d q k.0) [ inl y ↦ y | inr n ↦ absurd (k.1 ((g q).1 (record { before = k.0; after = n }))) ]
      | inr k ↦ ((f q).0 k).0
    ])
    (λ q h. (x.members q).1 (elim (e q h) [ inl o ↦ inl (o, λ k. ((g q).0 k).after h) | inr n ↦ inr ((f q).1 (h, n)) ]))

-- whether a cell of one complex is one of another is decided
pub decided : (s t : List ℕ) (i : IsSet s) (j : IsSet t) (q : Cell) → IsIn q (complex s) → IsIn q (complex t)
    ⊎ (IsIn q (complex t) → ⊥)
decided s t i j q m =
    decide_listed (cell (set_of t j)) (complex_of (set_of t j)) (complex t) (lists_of t j) q
    ((lists_of s i).ordered q m)

-- of an insertion
pub made_by_insertion : MadeByInsertion
made_by_insertion s p i n gone fresh m g f x =
    let j = more_set s p i.set n.key in
    made (complex s) (complex (with_point p s)) gone fresh m (decided s (with_point p s) i.set j)
    (decided (with_point p s) s j i.set) (complex_is_sorted (with_point p s) j.ascending) g
    (λ q. (
      λ h. (let r = (f q).0 h in ((cells_after s p i n q).1 (inr r), λ o. fresh_new s p i n q r o)),
      λ h. (f q).1 (elim ((cells_after s p i n q).0 h.0) [ inl k ↦ absurd (h.1 k.before) | inr r ↦ r ]),
    )) x
  where
    fresh_new : (s : List ℕ) (p : ℕ) (i : IsSolidSet s) (n : IsNew s p) (q : Cell) → IsFresh s p q →
        ¬ (IsIn q (complex s))
    fresh_new s p i n q r o =
        old_lack_point s p i n q o ((fresh_have_point s p i n q ((cells_after s p i n q).1 (inr r))).0 r)
