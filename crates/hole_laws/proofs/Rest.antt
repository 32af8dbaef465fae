-- A set without one of its points: the rest, and the set again.
use Rattle.std.specs.Prelude.{◌≡◌, ◌≢◌, ℕ, not, ◌==◌, List}
use Rattle.std.proofs.Common.{refl, sym, subst, inl, inr}
use Rattle.std.proofs.lemmas.Bool.{cases_eq}
use Rattle.list_laws.proofs.Cited.{false_if, filtered_ascending, filtered_from, filtered_true, not_both, not_from}
use Rattle.list_laws.proofs.Cited.{not_true, same_from, same_members, same_true}
use Rattle.point_order.specs.Sets.{IsIn, with_point, without_point}
use Rattle.point_order.proofs.Cited.{ascending_with, in_with, in_with_new, in_with_old}
use Rattle.hole_laws.specs.Edits.{IsSet, IsNew}

-- a point of the rest
pub without_from : (v : ℕ) (s : List ℕ) (e : ℕ) → IsIn e (without_point v s) → IsIn e s × (e ≢ v)
without_from v s e m =
    let k = filtered_from (λ q. not (q == v)) s e m in
    (k.0, λ q. not_both (e == v) (same_true e v q) (not_from (e == v) k.1))

-- and back
pub without_true : (v : ℕ) (s : List ℕ) (e : ℕ) → IsIn e s → e ≢ v → IsIn e (without_point v s)
without_true v s e m n =
    filtered_true (λ q. not (q == v)) s e m (not_true (e == v) (false_if (e == v) (λ h. n (same_from e v h))))

-- the rest is a set
pub rest_set : (v : ℕ) (s : List ℕ) → IsSet s → IsSet (without_point v s)
rest_set v s i = record {
  ascending = filtered_ascending (λ q. not (q == v)) s i.ascending;
  keys = record { below = λ e m. i.keys.below e (without_from v s e m).0 };
}

-- v is a new point of the rest
pub rest_new : (v : ℕ) (s : List ℕ) → IsSet s → IsIn v s → IsNew (without_point v s) v
rest_new v s i m = record { key = i.keys.below v m; absent = λ h. (without_from v s v h).1 refl }

-- and of each set within the rest
pub within_new : (v : ℕ) (s t : List ℕ) → IsSet s → IsIn v s → ((e : ℕ) → IsIn e t → IsIn e (without_point v s)) →
    IsNew t v
within_new v s t i m f = record { key = i.keys.below v m; absent = λ h. (without_from v s v (f v h)).1 refl }

-- the rest with v is the set
pub restored : (v : ℕ) (s : List ℕ) → IsSet s → IsIn v s → with_point v (without_point v s) ≡ s
restored v s i m =
    same_members (with_point v (without_point v s)) s (ascending_with v (without_point v s) (rest_set v s i).ascending)
    i.ascending
    (λ e h. elim (in_with v e (without_point v s) h) [
      | inl q ↦ subst (λ x. IsIn x s) q m
      | inr r ↦ (without_from v s e r).0
    ])
    (λ e h. elim (cases_eq e v) [
      | inl q ↦ subst (λ x. IsIn x (with_point v (without_point v s))) (sym q) (in_with_new v (without_point v s))
      | inr n ↦ in_with_old v e (without_point v s) (without_true v s e h n)
    ])
