-- What can be decided, and decisions as truth values.
use Rattle.std.specs.Prelude.{Bool, List, [], false, pos, refl, true, ℕ, ℤ, ◌<ℤ◌, ◌∷◌, ◌≡◌, ◌≤ℤ◌, ◌⊎◌}
use Rattle.std.proofs.Common.{arith, inl, inr, subst, sym}
use Rattle.std.proofs.Math.Decide.{ℕ_discrete}
use Rattle.std.proofs.lemmas.Int.{ints}
use Rattle.whole_ring.specs.Signs.{above, at_zero, below}
use Rattle.whole_ring.proofs.Cited.{sign}
use Rattle.list_laws.specs.Lists.{IsIn}

-- of two statements that follow from each other
pub moved : {A B : Type 0} → (A → B) → (B → A) → Dec A → Dec B
moved f g (yes a) = yes (f a)
moved f g (no n) = no (λ b. n (g b))

-- of one or the other
pub either : {A B : Type 0} → Dec A → Dec B → Dec (A ⊎ B)
either (yes a) d = yes (inl a)
either (no n) (yes b) = yes (inr b)
either (no n) (no k) = no (λ m. elim m [ inl a ↦ n a | inr b ↦ k b ])

-- of both
pub both : {A B : Type 0} → Dec A → Dec B → Dec (A × B)
both (yes a) (yes b) = yes (a, b)
both (yes a) (no k) = no (λ m. k m.1)
both (no n) d = no (λ m. n m.0)

-- of an implication
pub follows : {A B : Type 0} → Dec A → Dec B → Dec (A → B)
follows d (yes b) = yes (λ a. b)
follows (yes a) (no k) = no (λ f. k (f a))
follows (no n) (no k) = yes (λ a. absurd (n a))

-- of a denial
pub denied : {A : Type 0} → Dec A → Dec (¬ A)
denied (yes a) = no (λ k. k a)
denied (no n) = yes n

-- whether a point is in a list
pub is_in : (e : ℕ) (s : List ℕ) → Dec (IsIn e s)
is_in e [] = no (λ m. m)
is_in e (x ∷ xs) = either (ℕ_discrete x e) (is_in e xs)

-- whether something holds of all members
pub all_in : {X : Type 0} (P : X → Type 0) → ((e : X) → Dec (P e)) → (s : List X) → Dec ((e : X) → IsIn e s → P e)
all_in P d [] = yes (λ e m. absurd m)
all_in P d (x ∷ xs) =
    moved (λ t. λ e m. elim m [
      | inl q ↦ subst P q t.0
      | inr r ↦ t.1 e r
    ]) (λ f. (f x (inl refl), λ e m. f e (inr m))) (both (d x) (all_in P d xs))

-- whether it holds of some member
pub some_in : {X : Type 0} (P : X → Type 0) → ((e : X) → Dec (P e)) → (s : List X) → Dec ((e : X) × IsIn e s × P e)
some_in P d [] = no (λ t. t.1)
some_in P d (x ∷ xs) =
    moved (λ t. elim t [ inl p ↦ (x, inl refl, p) | inr r ↦ (r.0, inr r.1, r.2) ])
    (λ t. elim t.1 [ inl q ↦ inl (subst P (sym q) t.2) | inr r ↦ inr (t.0, r, t.2) ])
    (either (d x) (some_in P d xs))

-- whether a number is positive
pub is_positive : (z : ℤ) → Dec (pos 0 <ℤ z)
is_positive z = elim (sign z) [
  | below p ↦ no (λ q. omega (arith, ints, p, q))
  | at_zero p ↦ no (λ q. omega (arith, ints, p, q))
  | above p ↦ yes p
]

-- whether it is not negative
pub is_not_below : (z : ℤ) → Dec (pos 0 ≤ℤ z)
is_not_below z = elim (sign z) [
  | below p ↦ no (λ q. omega (arith, ints, p, q))
  | at_zero p ↦ yes (omega (arith, ints, p))
  | above p ↦ yes (omega (arith, ints, p))
]

-- whether it is 0
pub is_at_zero : (z : ℤ) → Dec (z ≡ pos 0)
is_at_zero z = elim (sign z) [
  | below p ↦ no (λ q. omega (arith, ints, p, q))
  | at_zero p ↦ yes p
  | above p ↦ no (λ q. omega (arith, ints, p, q))
]

-- a decision as a test
abbrev pub true_if : {A : Type 0} → Dec A → Bool
true_if (yes a) = true
true_if (no n) = false

-- it is true where the statement holds
pub true_if_yes : {A : Type 0} (d : Dec A) → A → true_if d ≡ true
true_if_yes (yes a) b = refl
true_if_yes (no n) b = absurd (n b)

-- and there alone
pub holds_true : {A : Type 0} (d : Dec A) → true_if d ≡ true → A
holds_true (yes a) e = a
holds_true (no n) e = cc

-- it is false where the statement does not hold
pub true_if_no : {A : Type 0} (d : Dec A) → (A → ⊥) → true_if d ≡ false
true_if_no (yes a) n = absurd (n a)
true_if_no (no k) n = refl

-- statements that follow from each other have the same test
pub true_if_same : {A B : Type 0} (d : Dec A) (e : Dec B) → (A → B) → (B → A) → true_if d ≡ true_if e
true_if_same (yes a) (yes b) f g = refl
true_if_same (yes a) (no n) f g = absurd (n (f a))
true_if_same (no n) (yes b) f g = absurd (n (g b))
true_if_same (no n) (no k) f g = refl

-- whether a test passes
pub is_true : (b : Bool) → Dec (b ≡ true)
is_true true = yes refl
is_true false = no (λ e. cc)

-- whether two lists of numbers are one
pub lists_discrete : (q r : List ℕ) → Dec (q ≡ r)
lists_discrete [] [] = yes refl
lists_discrete [] (y ∷ r) = no (λ e. (cc))
lists_discrete (x ∷ q) [] = no (λ e. (cc))
lists_discrete (x ∷ q) (y ∷ r) =
    moved (λ t. joined t.0 t.1) (λ e. (parted_first e, parted_rest e)) (both (ℕ_discrete x y) (lists_discrete q r))
  where
    -- equal parts
    joined : x ≡ y → q ≡ r → x ∷ q ≡ y ∷ r
    joined e f = cc

    -- of equal lists the first
    parted_first : x ∷ q ≡ y ∷ r → x ≡ y
    parted_first e = cc

    -- and the rest
    parted_rest : x ∷ q ≡ y ∷ r → q ≡ r
    parted_rest e = cc
