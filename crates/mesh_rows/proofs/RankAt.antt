-- The number of a point that stands at a known place.
use Rattle.std.proofs.Common.{◌≡◌, ◌∙◌, subst, inl, inr, ℕ, ◌<◌, List, length, get_or, arith, true, false}
use Rattle.std.specs.Prelude.{nat_lt}
use Rattle.std.specs.List.{prefix_len, AllWithin}
use Rattle.std.proofs.lemmas.Bool.{cases_lt}
use Rattle.std.proofs.lemmas.Bool.Decides.{nat_tests}
use Rattle.std.proofs.lemmas.List.{get_or_default}
use Rattle.point_order.specs.Sets.{IsAscending}
use Rattle.list_laws.proofs.Cited.{prefix_is, rises}

-- in an ascending list so many are below the one at a place as stand before it
pub rank_at : (s : List ℕ) (i e p : ℕ) → IsAscending s → i < length s → get_or s i e ≡ p →
    prefix_len (λ q. nat_lt q p) s ≡ i
rank_at s i e p h l at = prefix_is (λ q. nat_lt q p) s i (omega (arith, l)) below behind
  where
    below : AllWithin (λ q. nat_lt q p ≡ true) s 0 i
    below k d a m =
        let r : get_or s k d < get_or s i d = rises s k i d h m l in
        let v : get_or s i d ≡ p = get_or_default s i d e l ∙ at in
        grind (arith, nat_tests)

    behind : AllWithin (λ q. nat_lt q p ≡ false) s i (length s)
    behind k d a m =
        let v : get_or s i d ≡ p = get_or_default s i d e l ∙ at in
        elim (cases_lt i k) [
          | inl u ↦ (
              let r : get_or s i d < get_or s k d = rises s i k d h u m in
              grind (arith, nat_tests))
          | inr u ↦ (
              let w : i ≡ k = omega (arith, a, u) in
              subst (λ (n : ℕ). nat_lt (get_or s n d) p ≡ false) w (grind (arith, nat_tests)))
        ]
