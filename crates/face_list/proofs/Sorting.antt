-- Lists in order, and their members.
use Rattle.std.proofs.Common.{◌≡◌, refl, ap, ◌∙◌, ℕ, Bool}
use Rattle.std.specs.Cmp.{IsTotalOrder}
use Rattle.std.specs.Ordering.{nat_cmp, is_eq, eq_by_cmp, ordering_then}
use Rattle.std.specs.Prelude.{◌&&◌, ◌==◌}
use Rattle.std.specs.declared.cmp.Ordering.{Ordering}
use Rattle.std.specs.declared.cmp.Ordering.TheVariants.{Less, Equal, Greater}
use Rattle.std.proofs.lemmas.Cmp.{nat_cmp_total, then_total, on_total}
use Rattle.std.proofs.lemmas.Map.Lookups.{CmpEqualImpliesEq, exact_unsigned, exact_pairs}
use Rattle.list_laws.proofs.Cited.{nat_ties}
use Rattle.face_list.specs.Gather.{item_cmp}

-- ---- items by their keys and numbers

-- the order of items is one
pub item_order : {K : Type 0} {cmp : K → K → Ordering} → IsTotalOrder cmp → IsTotalOrder (item_cmp cmp)
item_order o = then_total (on_total (λ p. p.0) o) (on_total (λ p. p.1) nat_cmp_total)

-- items that tie are one, where keys that tie are
pub item_exact : {K : Type 0} {cmp : K → K → Ordering} → CmpEqualImpliesEq cmp → CmpEqualImpliesEq (item_cmp cmp)
item_exact {cmp = cmp} exact = exact_pairs cmp nat_cmp exact exact_unsigned

-- equal keys and equal numbers
pub item_ties : {K : Type 0} (cmp : K → K → Ordering) (eq : K → K → Bool) → ((x y : K) → eq x y ≡ eq_by_cmp cmp x y) →
    (i j : K × ℕ) → (eq i.0 j.0 && (i.1 == j.1)) ≡ eq_by_cmp (item_cmp cmp) i j
item_ties cmp eq ties i j = ap (λ b. b && (i.1 == j.1)) (ties i.0 j.0) ∙ by (cmp i.0 j.0) (nat_ties i.1 j.1)
  where
    by : (r : Ordering) → (i.1 == j.1) ≡ is_eq (nat_cmp i.1 j.1) →
        (is_eq r && (i.1 == j.1)) ≡ is_eq (ordering_then r (nat_cmp i.1 j.1))
    by Less e = refl
    by Equal e = e
    by Greater e = refl
