-- Whether an odd number of members of a list pass a test, and the handshake lemma.
use Rattle.std.specs.Prelude.{◌≡◌, Bool, true, false, List, [], ◌∷◌, ◌⊎◌}
use Rattle.std.proofs.Common.{refl, ap, ap₂, sym, ◌∙◌, inl, inr, subst}
use Rattle.list_laws.specs.Lists.{IsIn, AreDistinct}
use Rattle.list_laws.specs.Laws.{xor, odd, IsGraph, HasAnother, Handshake, AnotherOfEven, NoneIsEven, OneIsOdd}
use Rattle.list_laws.specs.Laws.{TwoAreEven}
use Rattle.list_laws.proofs.Booleans.{true_or_false}

-- ---- exclusive or

-- four tests may be taken in another order
pub shuffle : (a b c d : Bool) → xor (xor a b) (xor c d) ≡ xor (xor a c) (xor b d)
shuffle true true true d = refl
shuffle true true false true = refl
shuffle true true false false = refl
shuffle true false true true = refl
shuffle true false true false = refl
shuffle true false false d = refl
shuffle false true true d = refl
shuffle false true false d = refl
shuffle false false c d = refl

-- a test that is taken in twice falls away
cancel : (a b : Bool) → xor (xor false a) (xor a b) ≡ b
cancel true true = refl
cancel true false = refl
cancel false b = refl

-- a test is not both
true≢false : true ≡ false → ⊥
true≢false e = cc

-- of two tests that are both true or both false, the second is true where the first is
flip : (a b : Bool) → a ≡ true → xor a b ≡ false → b ≡ true
flip a true e o = refl
flip a false e o = absurd (true≢false (sym (ap (λ c. xor c false) e) ∙ o))

-- and false where the first is
skip : (a b : Bool) → a ≡ false → xor a b ≡ false → b ≡ false
skip a b e o = sym (ap (λ c. xor c b) e) ∙ o

-- ---- the handshake lemma

-- the parity of two tests that exclude each other where both hold
pub odd_xor : {X : Type 0} (p q : X → Bool) (xs : List X) → odd (λ x. xor (p x) (q x)) xs ≡ xor (odd p xs) (odd q xs)
odd_xor p q [] = refl
odd_xor p q (x ∷ xs) = ap (λ b. xor (xor (p x) (q x)) b) (odd_xor p q xs) ∙ shuffle (p x) (q x) (odd p xs) (odd q xs)

-- tests that agree have one parity
pub odd_same : {X : Type 0} (p q : X → Bool) → ((x : X) → p x ≡ q x) → (xs : List X) → odd p xs ≡ odd q xs
odd_same p q e [] = refl
odd_same p q e (x ∷ xs) = ap₂ xor (e x) (odd_same p q e xs)

-- a node in front of the list adds its degree twice: once its own, and once spread over the others
pub even_degrees : {X : Type 0} (m : X → X → Bool) → IsGraph m → (xs : List X) → odd (λ x. odd (m x) xs) xs ≡ false
even_degrees m g [] = refl
even_degrees m g (z ∷ xs) =
    ap₂ (λ a b. xor (xor a (odd (m z) xs)) b) (g.loose z) (odd_xor (λ x. m x z) (λ x. odd (m x) xs) xs
    ∙ ap₂ xor (odd_same (λ x. m x z) (m z) (λ x. g.both x z) xs) (even_degrees m g xs))
    ∙ cancel (odd (m z) xs) false

-- the laws of specs/Lists
pub handshake : (X : Type 0) → Handshake X
handshake X m g xs = even_degrees m g xs

-- ---- none, one and two

-- no member passes
pub none_even : {X : Type 0} (p : X → Bool) (xs : List X) → ((x : X) → IsIn x xs → p x ≡ false) → odd p xs ≡ false
none_even p [] n = refl
none_even p (x ∷ xs) n = ap₂ xor (n x (inl refl)) (none_even p xs (λ y m. n y (inr m)))

-- a member that passes
pub record HasSome {X : Type 0} (p : X → Bool) (xs : List X) : Type 0 where
  pub at : X
  pub found : IsIn at xs
  pub holds : p at ≡ true

-- no member passes, or one is found that does
pub look : {X : Type 0} (p : X → Bool) (xs : List X) → ((x : X) → IsIn x xs → p x ≡ false) ⊎ HasSome p xs
look p [] = inl (λ x m. absurd m)
look p (x ∷ xs) = elim (true_or_false (p x)) [
  | inl t ↦ inr (record { at = x; found = inl refl; holds = t })
  | inr f ↦ elim (look p xs) [
    | inl n ↦ inl (λ y m. elim m [ inl e ↦ sym (ap p e) ∙ f | inr r ↦ n y r ])
    | inr s ↦ inr (record { at = s.at; found = inr s.found; holds = s.holds })
  ]
]

-- an odd number: so one
pub odd_some : {X : Type 0} (p : X → Bool) (xs : List X) → odd p xs ≡ true → HasSome p xs
odd_some p xs o = elim (look p xs) [ inl n ↦ absurd (true≢false (sym o ∙ none_even p xs n)) | inr s ↦ s ]

-- an even number, and one of them: so another
pub another : {X : Type 0} (p : X → Bool) (x : X) (xs : List X) → AreDistinct xs → IsIn x xs → p x ≡ true →
    odd p xs ≡ false → HasAnother p x xs
another p x [] d m t o = absurd m
another {X} p x (z ∷ xs) d m t o = elim m [
  | inl e ↦ at_head e (odd_some p xs (flip (p z) (odd p xs) (ap p e ∙ t) o))
  | inr r ↦ elim (true_or_false (p z)) [
    | inl q ↦ record { at = z; found = inl refl; differs = λ e. d.0 (subst (λ y. IsIn y xs) (sym e) r); holds = q }
    | inr q ↦ further (another p x xs d.1 r t (skip (p z) (odd p xs) q o))
  ]
]
  where
    at_head : z ≡ x → HasSome p xs → HasAnother p x (z ∷ xs)
    at_head e s = record {
      at = s.at;
      found = inr s.found;
      differs =
          λ f. d.0 (subst (λ y. IsIn y xs) (f ∙ sym e) s.found);
      holds = s.holds;
    }

    further : HasAnother p x xs → HasAnother p x (z ∷ xs)
    further a = record { at = a.at; found = inr a.found; differs = a.differs; holds = a.holds }

-- exactly one
pub one_odd : {X : Type 0} (p : X → Bool) (x : X) (xs : List X) → AreDistinct xs → IsIn x xs → p x ≡ true →
    ((y : X) → IsIn y xs → p y ≡ true → y ≡ x) → odd p xs ≡ true
one_odd p x [] d m t u = absurd m
one_odd {X} p x (z ∷ xs) d m t u = elim m [
  | inl e ↦ ap₂ xor (ap p e ∙ t) (none_even p xs (λ y r. elim (true_or_false (p y)) [
    | inl q ↦ absurd (d.0 (subst (λ v. IsIn v xs) (u y (inr r) q ∙ sym e) r))
    | inr q ↦ q
  ]))
  | inr r ↦ elim (true_or_false (p z)) [
    | inl q ↦ absurd (d.0 (subst (λ v. IsIn v xs) (sym (u z (inl refl) q)) r))
    | inr q ↦ ap₂ xor q (one_odd p x xs d.1 r t (λ y n. u y (inr n)))
  ]
]

-- exactly two
pub two_even : {X : Type 0} (p : X → Bool) (x y : X) (xs : List X) → AreDistinct xs → IsIn x xs → IsIn y xs →
    ¬ (x ≡ y) → p x ≡ true → p y ≡ true → ((z : X) → IsIn z xs → p z ≡ true → (z ≡ x) ⊎ (z ≡ y)) → odd p xs ≡ false
two_even p x y [] d m n k t v u = refl
two_even {X} p x y (z ∷ xs) d m n k t v u = elim m [
  | inl e ↦ elim n [
    | inl f ↦ absurd (k (sym e ∙ f))
    | inr r ↦ ap₂ xor (ap p e ∙ t) (one_odd p y xs d.1 r v (λ w i q. elim (u w (inr i) q) [
      | inl g ↦ gone w (g ∙ sym e) i
      | inr g ↦ g
    ]))
  ]
  | inr r ↦ elim n [
    | inl f ↦ ap₂ xor (ap p f ∙ v) (one_odd p x xs d.1 r t (λ w i q. elim (u w (inr i) q) [
      | inl g ↦ g
      | inr g ↦ gone w (g ∙ sym f) i
    ]))
    | inr l ↦ elim (true_or_false (p z)) [
      | inl q ↦ elim (u z (inl refl) q) [
        | inl g ↦ absurd (d.0 (subst (λ w. IsIn w xs) (sym g) r))
        | inr g ↦ absurd (d.0 (subst (λ w. IsIn w xs) (sym g) l))
      ]
      | inr q ↦ ap₂ xor q (two_even p x y xs d.1 r l k t v (λ w i. u w (inr i)))
    ]
  ]
]
  where
    gone : {T : Type 0} → (w : X) → w ≡ z → IsIn w xs → T
    gone w g i = absurd (d.0 (subst (λ v. IsIn v xs) g i))

-- an even number, and one of them: so another
pub another_of_even : (X : Type 0) → AnotherOfEven X
another_of_even X p x xs d m t o = another p x xs d m t o

-- none
pub none_is_even : (X : Type 0) → NoneIsEven X
none_is_even X p xs n = none_even p xs n

-- exactly one
pub one_is_odd : (X : Type 0) → OneIsOdd X
one_is_odd X p x xs d m t u = one_odd p x xs d m t u

-- exactly two
pub two_are_even : (X : Type 0) → TwoAreEven X
two_are_even X p x y xs d m n k t v u = two_even p x y xs d m n k t v u
