-- Sets of points, as ascending lists of keys.
use Rattle.std.specs.Prelude.{ℕ, ◌≢◌, ◌↔◌, List, [], ◌∷◌, ◌==◌, nat_lt, not, if◌then◌else◌}
use Rattle.std.specs.List.{filter}
pub use Rattle.list_laws.specs.Lists.{IsIn, is_among, IsBelowFirst, IsAscending}

-- no two of the three are one
abbrev pub AreThree : ℕ → ℕ → ℕ → Type 0
AreThree a b c = (a ≢ b) × (a ≢ c) × (b ≢ c)

-- no two of the four are one
abbrev pub AreFour : ℕ → ℕ → ℕ → ℕ → Type 0
AreFour a b c d = (a ≢ b) × (a ≢ c) × (a ≢ d) × (b ≢ c) × (b ≢ d) × (c ≢ d)

-- no two of the five are one
abbrev pub AreFive : ℕ → ℕ → ℕ → ℕ → ℕ → Type 0
AreFive a b c d e =
    (a ≢ b) × (a ≢ c) × (a ≢ d) × (a ≢ e) × (b ≢ c) × (b ≢ d) × (b ≢ e) × (c ≢ d) × (c ≢ e) × (d ≢ e)

-- the two lists have the same points
abbrev pub AreSamePoints : List ℕ → List ℕ → Type 0
AreSamePoints l m = (e : ℕ) → IsIn e l ↔ IsIn e m

-- the ascending list with p, which stands in it once
abbrev pub with_point : ℕ → List ℕ → List ℕ
with_point p [] = p ∷ []
with_point p (q ∷ s) =
    if nat_lt p q then p ∷ q ∷ s else (if p == q then q ∷ s else q ∷ with_point p s)

-- the list without p
abbrev pub without_point : ℕ → List ℕ → List ℕ
without_point p s = filter (λ q. not (q == p)) s

-- the elements of a list in ascending order, each once
abbrev pub ascending : List ℕ → List ℕ
ascending [] = []
ascending (p ∷ ps) = with_point p (ascending ps)
