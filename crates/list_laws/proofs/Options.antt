-- Options and results: what is in them.
use Rattle.std.specs.Option.{option_map}
use Rattle.std.specs.Prelude.{Err, IfSome, IsSome, IsSomeAnd, List, MatchOption, None, Ok, OnErr, Option, Result, Some}
use Rattle.std.specs.Prelude.{[], false, is_some, length, replicate, slice_index_or, suc, true, unwrap_or, zero, ℕ, ◌<◌}
use Rattle.std.specs.Prelude.{◌∷◌, ◌≡◌, ◌≤◌}
use Rattle.std.proofs.Common.{ap, arith, refl, subst, sym}

-- an option of which something is said is there
pub some_and : {X : Type 0} (o : Option X) (P : X → Type 0) → IsSomeAnd o P → (x : X) × (o ≡ Some x) × P x
some_and None P h = absurd h
some_and (Some x) P h = (x, refl, h)

-- what is there has a value
pub some_of : {X : Type 0} (o : Option X) → IsSome o → (x : X) × (o ≡ Some x)
some_of None s = absurd (cc s)
some_of (Some x) s = (x, refl)

-- and what has one is there
pub is_there : {X : Type 0} (o : Option X) (x : X) → o ≡ Some x → IsSome o
is_there o x e = rw e refl

-- what is the same as what is there is there
pub same_there : {X : Type 0} (o p : Option X) → o ≡ p → IsSome o → IsSome p
same_there o p e s = subst (λ q. IsSome q) e s

-- nothing is not there
pub none_there : {X : Type 0} (o : Option X) → o ≡ None → IsSome o → ⊥
none_there o e s = absurd (cc (same_there o None e s))

-- an option has one value
pub one_value : {X : Type 0} (x y : X) → ◌≡◌ {A = Option X} (Some x) (Some y) → x ≡ y
one_value x y e = cc

-- past the end there is nothing
pub past : {X : Type 0} (l : List (Option X)) (i : ℕ) → length l ≤ i → slice_index_or l i None ≡ None
past [] i h = refl
past (x ∷ l) zero h = absurd (omega arith)
past (x ∷ l) (suc i) h = past l i (omega arith)

-- what is there is within the list
pub within : {X : Type 0} (l : List (Option X)) (i : ℕ) (x : X) → slice_index_or l i None ≡ Some x → i < length l
within [] i x e = absurd (cc e)
within (y ∷ l) zero x e = omega arith
within (y ∷ l) (suc i) x e = let r = within l i x e in omega arith

-- the same, where the value has no name
pub within_some : {X : Type 0} (l : List (Option X)) (i : ℕ) → IsSome (slice_index_or l i None) → i < length l
within_some l i s = let r = some_of (slice_index_or l i None) s in within l i r.0 r.1

-- None, of a type that is told
abbrev pub nothing : {X : Type 0} → Option X
nothing = None

-- in a list of nothing there is nothing at any place
pub none_at : {X : Type 0} (n i : ℕ) → slice_index_or (replicate n (nothing {X = X})) i None ≡ None
none_at zero i = refl
none_at (suc n) zero = refl
none_at (suc n) (suc i) = none_at n i

-- in a list of zeros there is 0
pub zero_at : (n i : ℕ) → ◌≡◌ {A = ℕ} (slice_index_or (replicate n 0) i 0) 0
zero_at zero i = refl
zero_at (suc n) zero = refl
zero_at (suc n) (suc i) = zero_at n i

-- the image of what is there is there
pub some_mapped : {X Y : Type 0} (f : X → Y) (o : Option X) → IsSome o → IsSome (option_map f o)
some_mapped f None s = s
some_mapped f (Some x) s = refl

-- the test of being there: there is a value
pub some_is : {X : Type 0} (o : Option X) → is_some o ≡ true → (x : X) × (o ≡ Some x)
some_is None e = absurd (cc e)
some_is (Some x) e = (x, refl)

-- or there is none
pub none_is : {X : Type 0} (o : Option X) → is_some o ≡ false → o ≡ None
none_is None e = refl
none_is (Some x) e = absurd (cc e)

-- what is said of an option that is not Some
pub at_none : {X : Type 0} (o : Option X) (P : Type 0) (Q : X → Type 0) → ((x : X) → ¬ (o ≡ Some x)) →
    MatchOption o P Q → P
at_none None P Q n m = m
at_none (Some x) P Q n m = absurd (n x refl)

-- what is said of the value, if there is one, said more weakly
pub if_some : {X : Type 0} (P Q : X → Type 0) (o : Option X) → ((x : X) → P x → Q x) → IfSome o P → IfSome o Q
if_some P Q None f h = tt
if_some P Q (Some x) f h = f x h

-- what holds of the value, where there is one
pub some_holds : {X : Type 0} (P : X → Type 0) (o : Option X) (x : X) → Some x ≡ o → IfSome o P → P x
some_holds P o x e h = subst (λ o. IfSome o P) (sym e) h

-- what is known of the value of a known option
pub of_some : {X : Type 0} (P : X → Type 0) (o : Option X) (x : X) → o ≡ Some x → IsSomeAnd o P → P x
of_some P o x e h = subst (λ o. IsSomeAnd o P) e h

-- and back
pub to_some : {X : Type 0} (P : X → Type 0) (o : Option X) (x : X) → o ≡ Some x → P x → IsSomeAnd o P
to_some P o x e h = subst (λ o. IsSomeAnd o P) (sym e) h

-- equal pairs have equal parts
pub same_pair : {X Y : Type 0} (a c : X) (b d : Y) → ◌≡◌ {A = Option (X × Y)} (Some (a, b)) (Some (c, d)) →
    (a ≡ c) × (b ≡ d)
same_pair {X} {Y} a c b d e = (
  ap (λ (o : Option (X × Y)). unwrap_or (option_map (λ p. p.0) o) a) e,
  ap (λ (o : Option (X × Y)). unwrap_or (option_map (λ p. p.1) o) b) e,
)

-- what holds in any case holds where there is an error
pub on_err : {T E P : Type 0} (r : Result T E) → P → OnErr r P
on_err (Ok x) p = tt
on_err (Err e) p = p

-- what is not there is nothing
pub none_or : {X : Type 0} (o : Option X) → (IsSome o → ⊥) → o ≡ None
none_or None f = refl
none_or (Some c) f = absurd (f refl)
