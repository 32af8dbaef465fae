-- Members of lists, lists without repeats, and ascending lists.
use Rattle.std.specs.Prelude.{ℕ, ◌≡◌, ◌<◌, Bool, List, [], ◌∷◌, ◌⊎◌, ◌==◌, Option, filter_map}
use Rattle.std.specs.List.{list_any}

-- x is an element
abbrev pub IsIn : {X : Type 0} → X → List X → Type 0
IsIn x [] = ⊥
IsIn x (y ∷ ys) = (y ≡ x) ⊎ IsIn x ys

-- p is one of the list
abbrev pub is_among : ℕ → List ℕ → Bool
is_among p s = list_any (λ q. q == p) s

-- no element stands in the list twice
abbrev pub AreDistinct : {X : Type 0} → List X → Type 0
AreDistinct [] = Unit {0}
AreDistinct (x ∷ xs) = (¬ (IsIn x xs)) × AreDistinct xs

-- what slots hold, in their order
abbrev pub held : {X : Type 0} → List (Option X) → List X
held slots = filter_map (λ slot. slot) slots

-- x is below the first of the list, if there is one
abbrev pub IsBelowFirst : ℕ → List ℕ → Type 0
IsBelowFirst x [] = Unit {0}
IsBelowFirst x (y ∷ ys) = x < y

-- each element is below the next
abbrev pub IsAscending : List ℕ → Type 0
IsAscending [] = Unit {0}
IsAscending (x ∷ xs) = IsBelowFirst x xs × IsAscending xs

-- Beside what was there, all that the elements give, and nothing else.
pub record Gathers {X Y : Type 0} (R : X → Y → Type 0) (xs : List X) (old list : List Y) : Type 0 where
  pub each : (y : Y) → IsIn y list → IsIn y old ⊎ ((x : X) × IsIn x xs × R x y)
  pub kept : (y : Y) → IsIn y old → IsIn y list
  pub all : (x : X) → IsIn x xs → (y : Y) → R x y → IsIn y list
