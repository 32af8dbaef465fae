-- The count of a part of a list.
use Rattle.std.specs.Prelude.{◌≡◌, ◌<◌, ◌≤◌, ◌+◌, Bool, true, false, List, [], ◌∷◌, count_by, cond}
use Rattle.std.proofs.Common.{arith, refl, ap, ◌∙◌, inl, inr}
use Rattle.std.proofs.lemmas.List.Sums.{sum_by-cons}
use Rattle.list_laws.specs.Lists.{IsIn}
use Rattle.list_laws.specs.Laws.{CountOfPart, CountOfLess}

-- a member in front counts 1 or 0
count_cons : {X : Type 0} (p : X → Bool) (x : X) (xs : List X) → count_by p (x ∷ xs) ≡ cond (p x) 1 0 + count_by p xs
count_cons p x xs = sum_by-cons (λ y. cond (p y) 1 0) x xs

-- a stricter test counts at most as much at one member
one_most : (a b : Bool) → (a ≡ true → b ≡ true) → cond a 1 0 ≤ cond b 1 0
one_most true b f = rw (f refl) (omega arith)
one_most false b f = omega arith

-- and less, where the second passes it alone
one_less : (a b : Bool) → a ≡ false → b ≡ true → cond a 1 0 < cond b 1 0
one_less a b e f = rw (e, f) (omega arith)

-- a stricter test counts at most as many
pub count_most : {X : Type 0} (p q : X → Bool) (xs : List X) → ((x : X) → IsIn x xs → p x ≡ true → q x ≡ true) →
    count_by p xs ≤ count_by q xs
count_most p q [] f = omega arith
count_most p q (x ∷ xs) f =
    omega (
      arith,
      count_cons p x xs,
      count_cons q x xs,
      one_most (p x) (q x) (f x (inl refl)),
      count_most p q xs (λ y m. f y (inr m)),
    )

-- and fewer, where a member passes the second test alone
pub count_less : {X : Type 0} (p q : X → Bool) (xs : List X) → ((x : X) → IsIn x xs → p x ≡ true → q x ≡ true) →
    (y : X) → IsIn y xs → p y ≡ false → q y ≡ true → count_by p xs < count_by q xs
count_less p q [] f y m a b = absurd m
count_less p q (x ∷ xs) f y m a b = elim m [
  | inl e ↦ omega (
    arith,
    count_cons p x xs,
    count_cons q x xs,
    one_less (p x) (q x) (ap p e ∙ a) (ap q e ∙ b),
    count_most p q xs (λ z k. f z (inr k)),
  )
  | inr r ↦ omega (
    arith,
    count_cons p x xs,
    count_cons q x xs,
    one_most (p x) (q x) (f x (inl refl)),
    count_less p q xs (λ z k. f z (inr k)) y r a b,
  )
]

-- the laws of specs/Lists
pub count_of_part : (X : Type 0) → CountOfPart X
count_of_part X p q xs f = count_most p q xs f

-- the same with a member that passes the second test alone
pub count_of_less : (X : Type 0) → CountOfLess X
count_of_less X p q xs f y m a b = count_less p q xs f y m a b
