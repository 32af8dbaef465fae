-- Counting in hands.
use Rattle.std.specs.Prelude.{ℕ, zero, suc, ◌+◌, ◌==◌, Bool, true, false, cond, List, [], ◌∷◌}
use Rattle.round_table.specs.declared.view.Hand.{Hand}
use Rattle.round_table.specs.declared.view.View.{View}

-- 1 where it is true, else 0
abbrev pub one : Bool → ℕ
one true = 1
one false = 0

-- how often x stands in the list
abbrev pub times : ℕ → List ℕ → ℕ
times x [] = 0
times x (y ∷ ys) = one (x == y) + times x ys

-- f of each hand, added up
abbrev pub tally : (Hand → ℕ) → List Hand → ℕ
tally f [] = 0
tally f (h ∷ hands) = f h + tally f hands

-- of all hands of all seats
abbrev pub total : {T : Type 0} → (Hand → ℕ) → List (View T) → ℕ
total f [] = 0
total f (v ∷ views) = tally f v.hands + total f views

-- how often a bucket stands among the claims of a hand
abbrev pub claims_in : ℕ → Hand → ℕ
claims_in b h = times b h.claims

-- whether a hand has this number
abbrev pub is_named : ℕ → Hand → ℕ
is_named m h = one (m == h.number)

-- how often a bucket stands among the claims of a hand of this number
abbrev pub claims_by : ℕ → ℕ → Hand → ℕ
claims_by m b h = cond (m == h.number) (times b h.claims) 0

-- one for each hand
abbrev pub each : Hand → ℕ
each h = 1

-- what a word says: whether its bucket is claimed, and whether by the pass of this number
abbrev pub is_taken : ℕ → ℕ
is_taken zero = 0
is_taken (suc n) = 1

abbrev pub is_by : ℕ → ℕ → ℕ
is_by m zero = 0
is_by m (suc n) = one (m == n)
