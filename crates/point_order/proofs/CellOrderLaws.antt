-- The order of cells.
use Rattle.std.specs.Prelude.{◌≡◌, List, [], ◌∷◌, ◌⊎◌}
use Rattle.std.specs.Cmp.{IsTotalOrder}
use Rattle.std.specs.Ordering.{ordering_reverse}
use Rattle.std.specs.declared.cmp.Ordering.{Ordering}
use Rattle.std.specs.declared.cmp.Ordering.TheVariants.{Less, Equal, Greater}
use Rattle.std.proofs.Common.{refl, ◌∙◌, ap, inl, inr, sym}
use Rattle.std.proofs.lemmas.Cmp.{nat_list_cmp_total}
use Rattle.list_laws.proofs.Cited.{same_list}
use Rattle.point_order.specs.declared.cell.Cell.{Cell}
use Rattle.point_order.specs.declared.cell.Cell.TheVariants.{Full, Open}
use Rattle.point_order.specs.CellOrder.{cell_cmp}
use Rattle.point_order.specs.Sets.{IsIn}
use Rattle.point_order.specs.contracts.cell.CellOrd.TheImpl as by_order

-- it is what the derived order answers
pub cmp_is : (c d : Cell) → cell_cmp c d ≡ by_order.ghosts.cmp c d
cmp_is (Full q) (Full r) = refl
cmp_is (Full q) (Open r) = refl
cmp_is (Open q) (Full r) = refl
cmp_is (Open q) (Open r) = refl

-- cells that tie are one
pub cell_same : (c d : Cell) → cell_cmp c d ≡ Equal → c ≡ d
cell_same (Full q) (Full r) e = ap Full (same_list q r e)
cell_same (Full q) (Open r) e = cc
cell_same (Open q) (Full r) e = cc
cell_same (Open q) (Open r) e = ap Open (same_list q r e)

-- the other way round the answer is the reverse
pub cell_reverse : (c d : Cell) → cell_cmp c d ≡ ordering_reverse (cell_cmp d c)
cell_reverse (Full q) (Full r) = nat_list_cmp_total.antisymm q r
cell_reverse (Full q) (Open r) = refl
cell_reverse (Open q) (Full r) = refl
cell_reverse (Open q) (Open r) = nat_list_cmp_total.antisymm q r

-- a cell ties with itself
pub cell_self : (c : Cell) → cell_cmp c c ≡ Equal
cell_self c = by (cell_cmp c c) (cell_reverse c c)
  where
    by : (o : Ordering) → o ≡ ordering_reverse o → o ≡ Equal
    by Less e = cc
    by Equal e = refl
    by Greater e = cc

-- before what is before
pub cell_before : (c d e : Cell) → cell_cmp c d ≡ Less → cell_cmp d e ≡ Less → cell_cmp c e ≡ Less
cell_before (Full q) (Full r) (Full s) h k = nat_list_cmp_total.trans q r s h k
cell_before (Full q) (Full r) (Open s) h k = refl
cell_before (Full q) (Open r) (Full s) h k = cc
cell_before (Full q) (Open r) (Open s) h k = refl
cell_before (Open q) (Full r) e h k = cc
cell_before (Open q) (Open r) (Full s) h k = cc
cell_before (Open q) (Open r) (Open s) h k = nat_list_cmp_total.trans q r s h k

-- what is after comes before the other way round
pub cell_after : (c d : Cell) → cell_cmp c d ≡ Greater → cell_cmp d c ≡ Less
cell_after c d e = cell_reverse d c ∙ ap ordering_reverse e

-- it is an order
pub cell_order : IsTotalOrder cell_cmp
cell_order =
    record { antisymm = cell_reverse; trans = cell_before; congr = λ c d e h. ap (λ x. cell_cmp x e) (cell_same c d h) }

-- a cell is in a list or not
pub cell_in_or_not : (c : Cell) (l : List Cell) → IsIn c l ⊎ (IsIn c l → ⊥)
cell_in_or_not c [] = inr (λ m. m)
cell_in_or_not c (d ∷ l) = by (cell_cmp d c) refl (cell_in_or_not c l)
  where
    -- and none that stands before or behind it is it
    other : (o : Ordering) → cell_cmp d c ≡ o → (o ≡ Equal → ⊥) → d ≡ c → ⊥
    other o e n same = n (sym e ∙ (ap (λ x. cell_cmp x c) same ∙ cell_self c))

    by : (o : Ordering) → cell_cmp d c ≡ o → IsIn c l ⊎ (IsIn c l → ⊥) → IsIn c (d ∷ l) ⊎ (IsIn c (d ∷ l) → ⊥)
    by Equal e r = inl (inl (cell_same d c e))
    by o e (inl m) = inl (inr m)
    by Less e (inr n) = inr (λ m. elim m [ inl same ↦ other Less e (λ x. cc x) same | inr k ↦ n k ])
    by Greater e (inr n) = inr (λ m. elim m [ inl same ↦ other Greater e (λ x. cc x) same | inr k ↦ n k ])
