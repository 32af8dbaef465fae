-- Sums over hands.
use Rattle.std.specs.Prelude.{◌≡◌, ℕ, zero, suc, ◌+◌, ◌<◌, ◌≤◌, ◌==◌, ltb, Bool, true, false, List, [], ◌∷◌, ◌++◌}
use Rattle.std.specs.Prelude.{length, slice_get, slice_set, Some}
use Rattle.std.proofs.Common.{refl, sym, ap, arith}
use Rattle.std.proofs.lemmas.Bool.Decides.{nat_tests}
use mathlib.Core.Option.{some, some-injective, some-ne-none}
use lib.ListN.{get_elem?}
use Rattle.round_table.specs.declared.view.Hand.{Hand}
use Rattle.round_table.specs.declared.view.View.{View}
use Rattle.round_table.specs.Counts.{one, times, tally, total}

-- a truth value counts at most once
pub one_most : (t : Bool) → one t ≤ 1
one_most true = omega arith
one_most false = omega arith

-- where it counts, it is true
pub below_named : (n w : ℕ) → 1 ≤ one (ltb n w) → n < w
below_named n w l = by (ltb n w) refl l
  where
    by : (t : Bool) → ltb n w ≡ t → 1 ≤ one t → n < w
    by true e l = grind (arith, nat_tests)
    by false e l = absurd (omega arith)

pub same_number : (m n : ℕ) → 1 ≤ one (m == n) → m ≡ n
same_number m n l = by (m == n) refl l
  where
    by : (t : Bool) → (m == n) ≡ t → 1 ≤ one t → m ≡ n
    by true e l = grind (arith, nat_tests)
    by false e l = absurd (omega arith)

-- one number more in a list
pub times_push : (x : ℕ) (xs : List ℕ) (y : ℕ) → times x (xs ++ y ∷ []) ≡ times x xs + one (x == y)
times_push x [] y = omega arith
times_push x (z ∷ xs) y = let r = times_push x xs y in omega arith

pub times_append : (x : ℕ) (xs ys : List ℕ) → times x (xs ++ ys) ≡ times x xs + times x ys
times_append x [] ys = omega arith
times_append x (z ∷ xs) ys = let r = times_append x xs ys in omega arith

pub tally_append : (f : Hand → ℕ) (a b : List Hand) → tally f (a ++ b) ≡ tally f a + tally f b
tally_append f [] b = omega arith
tally_append f (h ∷ a) b = let r = tally_append f a b in omega arith

-- what no hand counts of one kind, none counts of a kind that is part of it
pub none_tally : (f g : Hand → ℕ) → ((h : Hand) → g h ≡ 0 → f h ≡ 0) → (hands : List Hand) → tally g hands ≡ 0 →
    tally f hands ≡ 0
none_tally f g part [] e = refl
none_tally f g part (h ∷ hands) e =
    let a : f h ≡ 0 = part h (omega arith) in let r = none_tally f g part hands (omega arith) in omega arith

-- an element within a list
pub within : {X : Type 0} (xs : List X) (i : ℕ) → i < length xs → (x : X) × (slice_get xs i ≡ Some x)
within [] i l = absurd (omega arith)
within (x ∷ xs) zero l = (x, refl)
within (x ∷ xs) (suc i) l = within xs i (omega arith)

module _ {T : Type 0} where
  pub total_append : (f : Hand → ℕ) (views : List (View T)) (w : View T) →
      total f (views ++ w ∷ []) ≡ total f views + tally f w.hands
  total_append f [] w = omega arith
  total_append f (v ∷ views) w = let r = total_append f views w in omega arith

  -- where one view becomes another
  pub total_set : (f : Hand → ℕ) (views : List (View T)) (j : ℕ) (v w : View T) → get_elem? views j ≡ some v →
      total f (slice_set views j w) + tally f v.hands ≡ total f views + tally f w.hands
  total_set f [] j v w e = absurd (some-ne-none v (sym e))
  total_set f (x ∷ views) zero v w e =
      let q : tally f x.hands ≡ tally f v.hands = ap (λ (u : View T). tally f u.hands) (some-injective x v e) in
      omega arith
  total_set f (x ∷ views) (suc j) v w e = let r = total_set f views j v w e in omega arith

  pub total_at : (f : Hand → ℕ) (views : List (View T)) (j : ℕ) (v : View T) → get_elem? views j ≡ some v →
      tally f v.hands ≤ total f views
  total_at f [] j v e = absurd (some-ne-none v (sym e))
  total_at f (x ∷ views) zero v e =
      let q : tally f x.hands ≡ tally f v.hands = ap (λ (u : View T). tally f u.hands) (some-injective x v e) in
      omega arith
  total_at f (x ∷ views) (suc j) v e = let r = total_at f views j v e in omega arith

  none_total : (f g : Hand → ℕ) → ((h : Hand) → g h ≡ 0 → f h ≡ 0) → (views : List (View T)) → total g views ≡ 0 →
      total f views ≡ 0
  none_total f g part [] e = refl
  none_total f g part (v ∷ views) e =
      let a = none_tally f g part v.hands (omega arith) in let r = none_total f g part views
      (omega arith) in omega arith

  -- where one view counts all of a kind, it counts all of a kind that is part of it
  pub alone : (f g : Hand → ℕ) → ((h : Hand) → g h ≡ 0 → f h ≡ 0) → (views : List (View T)) (j : ℕ) (v : View T) →
      get_elem? views j ≡ some v → total g views ≡ tally g v.hands → total f views ≡ tally f v.hands
  alone f g part [] j v e q = absurd (some-ne-none v (sym e))
  alone f g part (x ∷ views) zero v e q =
      let a : tally g x.hands ≡ tally g v.hands = ap (λ (u : View T). tally g u.hands) (some-injective x v e) in
      let b : tally f x.hands ≡ tally f v.hands = ap (λ (u : View T). tally f u.hands) (some-injective x v e) in
      let n = none_total f g part views (omega arith) in
      omega arith
  alone f g part (x ∷ views) (suc j) v e q =
      let l = total_at g views j v e in
      let n = none_tally f g part x.hands (omega arith) in
      let r = alone f g part views j v e (omega arith) in
      omega arith
