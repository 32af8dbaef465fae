-- The laws that the crate promises: lists of the same members, a member of least ratio, the handshake lemma, and the
-- count of a part.
use Rattle.std.specs.Prelude.{ℕ, ℤ, pos, ◌*ℤ◌, ◌≡◌, ◌≤ℤ◌, ◌<ℤ◌, ◌<◌, ◌≤◌, Bool, true, false, List, [], ◌∷◌, ◌⊎◌, length}
use Rattle.std.specs.Prelude.{count_by}
use Rattle.list_laws.specs.Lists.{IsIn, AreDistinct, IsAscending}

-- ---- lists of the same members

-- ascending lists of the same members are one list
abbrev pub SameMembers : Type 0
SameMembers =
    (xs ys : List ℕ) →
    IsAscending xs → IsAscending ys →
    ((p : ℕ) → IsIn p xs → IsIn p ys) → ((p : ℕ) → IsIn p ys → IsIn p xs) → xs ≡ ys

-- a list whose elements all stand in another, and none twice, is no longer
abbrev pub FewerMembers : Type 0 → Type 0
FewerMembers X = (xs ys : List X) → AreDistinct xs → ((x : X) → IsIn x xs → IsIn x ys) → length xs ≤ length ys

-- ---- least ratio

-- Among the members of s at which den is positive, best is one at which num / den is least.
pub record HasLeastRatio {X : Type 0} (num den : X → ℤ) (s : List X) (best : X) : Type 0 where
  pub found : IsIn best s
  pub positive : pos 0 <ℤ den best
  pub least : (x : X) → IsIn x s → pos 0 <ℤ den x → (num best *ℤ den x) ≤ℤ (num x *ℤ den best)

-- den is positive at no member, or some member has the least ratio
abbrev pub LeastRatio : Type 0 → Type 0
LeastRatio X =
    (num den : X → ℤ) (s : List X) →
    ((x : X) → IsIn x s → den x ≤ℤ pos 0) ⊎ ((best : X) × HasLeastRatio num den s best)

-- ---- parity

-- exactly one of the two is true
abbrev pub xor : Bool → Bool → Bool
xor true true = false
xor true false = true
xor false b = b

-- whether an odd number of members pass the test
abbrev pub odd : {X : Type 0} → (X → Bool) → List X → Bool
odd p [] = false
odd p (x ∷ xs) = xor (p x) (odd p xs)

-- a graph by its edges: no edge leads from a node to itself, and an edge leads both ways
pub record IsGraph {X : Type 0} (m : X → X → Bool) : Type 0 where
  pub loose : (x : X) → m x x ≡ false
  pub both : (x y : X) → m x y ≡ m y x

-- the degrees of a graph add up to an even number: evenly many nodes have an odd degree
abbrev pub Handshake : Type 0 → Type 0
Handshake X = (m : X → X → Bool) → IsGraph m → (xs : List X) → odd (λ x. odd (m x) xs) xs ≡ false

-- a member of the list other than x that passes the test
pub record HasAnother {X : Type 0} (p : X → Bool) (x : X) (xs : List X) : Type 0 where
  pub at : X
  pub found : IsIn at xs
  pub differs : ¬ (at ≡ x)
  pub holds : p at ≡ true

-- where evenly many members pass, and one does, another does
abbrev pub AnotherOfEven : Type 0 → Type 0
AnotherOfEven X =
    (p : X → Bool) (x : X) (xs : List X) →
    AreDistinct xs → IsIn x xs → p x ≡ true → odd p xs ≡ false → HasAnother p x xs

-- no member passes: an even number
abbrev pub NoneIsEven : Type 0 → Type 0
NoneIsEven X = (p : X → Bool) (xs : List X) → ((x : X) → IsIn x xs → p x ≡ false) → odd p xs ≡ false

-- exactly one does: an odd number
abbrev pub OneIsOdd : Type 0 → Type 0
OneIsOdd X =
    (p : X → Bool) (x : X) (xs : List X) →
    AreDistinct xs → IsIn x xs → p x ≡ true → ((y : X) → IsIn y xs → p y ≡ true → y ≡ x) → odd p xs ≡ true

-- exactly two do: an even number
abbrev pub TwoAreEven : Type 0 → Type 0
TwoAreEven X =
    (p : X → Bool) (x y : X) (xs : List X) →
    AreDistinct xs → IsIn x xs → IsIn y xs → ¬ (x ≡ y) → p x ≡ true → p y ≡ true →
    ((z : X) → IsIn z xs → p z ≡ true → (z ≡ x) ⊎ (z ≡ y)) → odd p xs ≡ false

-- ---- counts

-- a test that is stricter on the members counts at most as many
abbrev pub CountOfPart : Type 0 → Type 0
CountOfPart X =
    (p q : X → Bool) (xs : List X) →
    ((x : X) → IsIn x xs → p x ≡ true → q x ≡ true) → count_by p xs ≤ count_by q xs

-- and fewer, where some member passes the second test and not the first
abbrev pub CountOfLess : Type 0 → Type 0
CountOfLess X =
    (p q : X → Bool) (xs : List X) →
    ((x : X) → IsIn x xs → p x ≡ true → q x ≡ true) →
    (y : X) → IsIn y xs → p y ≡ false → q y ≡ true → count_by p xs < count_by q xs
