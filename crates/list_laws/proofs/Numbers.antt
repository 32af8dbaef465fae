-- Natural numbers: tests of equality and order, and how two lie to each other.
use Rattle.std.specs.Cmp.{nat_cmp_is}
use Rattle.std.specs.Cmp.Lexicographic.{slice_cmp}
use Rattle.std.specs.Ordering.{is_eq, is_lt, nat_cmp}
use Rattle.std.specs.Prelude.{List, false, nat_lt, refl, suc, true, zero, ℕ, ◌%◌, ◌*◌, ◌+◌, ◌-◌, ◌<◌, ◌==◌, ◌≡◌, ◌≢◌}
use Rattle.std.specs.Prelude.{◌≤◌, ◌⊎◌}
use Rattle.std.specs.declared.cmp.Ordering.{Ordering}
use Rattle.std.specs.declared.cmp.Ordering.TheVariants.{Equal, Greater, Less}
use Rattle.std.proofs.Common.{Bool, ap, arith, inl, inr, sym, ◌∙◌}
use Rattle.std.proofs.lemmas.Bool.{eq-eqb}
use Rattle.std.proofs.lemmas.Bool.Decides.{nat_tests}
use Rattle.std.proofs.lemmas.Map.Text.{is_eq-slice_cmp}
use Rattle.std.proofs.lemmas.Nat.{mod-mul-add}
use Rattle.std.proofs.lemmas.Slice.Eq.{bytes_eq-Decides}

-- equal numbers
pub same_from : (m n : ℕ) → (m == n) ≡ true → m ≡ n
same_from m n e = grind (arith, nat_tests)

-- and back
pub same_true : (m n : ℕ) → m ≡ n → (m == n) ≡ true
same_true m n e = grind (arith, nat_tests)

-- the test of an order
pub below_from : (m n : ℕ) → nat_lt m n ≡ true → m < n
below_from m n e = grind (arith, nat_tests)

-- and back
pub below_true : (m n : ℕ) → m < n → nat_lt m n ≡ true
below_true m n e = grind (arith, nat_tests)

-- a number passes the test of equality with itself
pub eq_same : (n : ℕ) → (n == n) ≡ true
eq_same n = eq-eqb n n refl

-- numbers that fail it differ
pub differ_from : (n m : ℕ) → (n == m) ≡ false → n ≢ m
differ_from n m = grind (arith, nat_tests)

-- one after the other
pub less_chain : (a b c : ℕ) → a < b → b < c → a < c
less_chain a b c e f = omega arith

-- two numbers in order
pub le_or_lt : (a b : ℕ) → (a ≤ b) ⊎ (b < a)
le_or_lt zero b = inl (omega arith)
le_or_lt (suc a) zero = inr (omega arith)
le_or_lt (suc a) (suc b) = elim (le_or_lt a b) [ inl l ↦ inl (omega (arith, l)) | inr l ↦ inr (omega (arith, l)) ]

-- one more bucket
pub one_below : (n i : ℕ) → i < n + 1 → (i < n) ⊎ (i ≡ n)
one_below n i l = elim (le_or_lt n i) [ inl k ↦ inr (omega (arith, k, l)) | inr k ↦ inl k ]

-- a round from any bucket meets each
pub round : (first b n : ℕ) → first < n → b < n → (i : ℕ) × (i < n) × ((first + i) % n ≡ b)
round first b n f l = elim (le_or_lt first b) [
  | inl k ↦ (b - first, omega (arith, k, l), at 0 (b - first) (omega (arith, k)))
  | inr k ↦ (b + n - first, omega (arith, k, f), at 1 (b + n - first) (omega (arith, k, f)))
]
  where
    at : (a i : ℕ) → first + i ≡ a * n + b → (first + i) % n ≡ b
    at a i e = ap (λ m. m % n) e ∙ mod-mul-add a n b l

-- a lesser number comes first
pub cmp_less : (x y : ℕ) → x < y → nat_cmp x y ≡ Less
cmp_less x y l = sym (nat_cmp_is x y Less l)

-- a number ties with itself
pub cmp_same : (x : ℕ) → nat_cmp x x ≡ Equal
cmp_same x = sym (nat_cmp_is x x Equal refl)

-- the test of a tie
pub is_equal : (o : Ordering) → is_eq o ≡ true → o ≡ Equal
is_equal Less e = cc
is_equal Equal e = refl
is_equal Greater e = cc

-- and of the first before the second
pub is_less : (r : Ordering) → is_lt r ≡ true → r ≡ Less
is_less Less e = refl
is_less Equal e = cc
is_less Greater e = cc

-- how two numbers stand
pub ordered : (x y : ℕ) → ((x < y) × (nat_cmp x y ≡ Less)) ⊎ ((x ≡ y) × (nat_cmp x y ≡ Equal))
    ⊎ ((y < x) × (nat_cmp x y ≡ Greater))
ordered x y = by_tests (nat_lt x y) (x == y) refl refl
  where
    -- by the two tests
    by_tests : (t u : Bool) → nat_lt x y ≡ t → (x == y) ≡ u → ((x < y) × (nat_cmp x y ≡ Less))
        ⊎ ((x ≡ y) × (nat_cmp x y ≡ Equal)) ⊎ ((y < x) × (nat_cmp x y ≡ Greater))
    by_tests true u e f = inl (grind (arith, nat_tests), rw e refl)
    by_tests false true e f = inr (inl (grind (arith, nat_tests), rw (e, f) refl))
    by_tests false false e f = inr (inr (grind (arith, nat_tests), rw (e, f) refl))

-- lists of numbers that tie are one
pub same_list : (q r : List ℕ) → slice_cmp nat_cmp q r ≡ Equal → q ≡ r
same_list q r e = (bytes_eq-Decides q r).0 (sym (is_eq-slice_cmp q r) ∙ ap is_eq e)
