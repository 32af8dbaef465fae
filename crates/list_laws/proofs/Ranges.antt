-- Numbers that are counted up, and lists by their numbers.
use Rattle.std.specs.List.{IsDistinct, range_with_len}
use Rattle.std.specs.List.Sorted.{IsNonDecreasing}
use Rattle.std.specs.Prelude.{List, [], false, map, nat_eq, set, suc, zero, ℕ, ◌++◌, ◌+◌, ◌<◌, ◌∷◌, ◌≡◌, ◌≢◌, ◌≤◌}
use Rattle.std.proofs.Common.{ap, arith, inl, inr, refl, sym, ◌∙◌}
use Rattle.std.proofs.lemmas.Bool.Decides.{nat_tests}
use Rattle.list_laws.specs.Lists.{IsAscending, IsBelowFirst, IsIn}

-- what is below the first that is counted
pub range_above : (n k x : ℕ) → x < n → IsBelowFirst x (range_with_len n k)
range_above n zero x h = tt
range_above n (suc k) x h = h

-- counted numbers ascend
pub range_ascending : (n k : ℕ) → IsAscending (range_with_len n k)
range_ascending n zero = tt
range_ascending n (suc k) = (range_above (n + 1) k n (omega arith), range_ascending (n + 1) k)

-- numbers that do not fall and do not repeat rise
pub rising : (s : List ℕ) → IsNonDecreasing s → IsDistinct nat_eq s → IsAscending s
unfolding IsDistinct
rising [] h d = tt
rising (x ∷ []) h d = (tt, tt)
rising (x ∷ y ∷ s) h d = (
  above (h 0 1 0 (omega arith) (omega arith)) d.0.0,
  rising (y ∷ s)
      (λ i j e l m. h (suc i) (suc j) e (omega arith) (omega arith)) d.1,
)
  where
    above : x ≤ y → nat_eq x y ≡ false → x < y
    above l e = grind (arith, nat_tests)

-- the last of those that are counted
pub last_counted : (a n j : ℕ) → a + n ≡ j → range_with_len a (suc n) ≡ range_with_len a n ++ j ∷ []
last_counted a zero j e = let same : a ≡ j = omega (arith, e) in ap (λ (k : ℕ). k ∷ []) same
last_counted a (suc n) j e = ap (λ (l : List ℕ). a ∷ l) (last_counted (a + 1) n j (omega (arith, e)))

-- one number more
pub counted_on : (n : ℕ) → range_with_len 0 (n + 1) ≡ range_with_len 0 n ++ n ∷ []
counted_on n = let on : n + 1 ≡ suc n = omega arith in ap (range_with_len 0) on ∙ last_counted 0 n n (omega arith)

-- each is below the end
pub counted_below : (a n x : ℕ) → IsIn x (range_with_len a n) → x < a + n
counted_below a zero x i = absurd i
counted_below a (suc n) x (inl e) = omega (arith, e)
counted_below a (suc n) x (inr i) = let k = counted_below (a + 1) n x i in omega (arith, k)

-- f and g differ at no number from a on
pub map_above : {X : Type 0} (f g : ℕ → X) (a n : ℕ) → ((i : ℕ) → a ≤ i → g i ≡ f i) → map g (range_with_len a n)
    ≡ map f (range_with_len a n)
map_above f g a zero h = refl
map_above f g a (suc n) h =
    let first =
    h a (omega arith) in let rest = map_above f g (a + 1) n (λ i l. h i (omega (arith, l))) in λ j. first j ∷ rest j

-- they differ at one number
pub map_but_one : {X : Type 0} (f g : ℕ → X) (a n k : ℕ) (v : X) → k < n → g (a + k) ≡ v →
    ((i : ℕ) → i ≢ a + k → g i ≡ f i) →
    map g (range_with_len a n) ≡ set (map f (range_with_len a n)) k v
map_but_one f g a zero k v l e h = absurd (omega (arith, l))
map_but_one f g a (suc n) zero v l e h =
    let zero_more : a + 0 ≡ a = omega arith in
    let first = ap g (sym zero_more) ∙ e in
    let rest = map_above f g (a + 1) n (λ i m. h i (λ q. omega (arith, m, q))) in
    λ j. first j ∷ rest j
map_but_one f g a (suc n) (suc k) v l e h =
    let there : a + 1 + k ≡ a + suc k = omega arith in
    let first = h a (λ q. omega (arith, q)) in
    let rest =
    map_but_one f g (a + 1) n k v (omega (arith, l)) (ap g there ∙ e) (λ i m. h i (λ q. m (q ∙ sym there))) in
    λ j. first j ∷ rest j
