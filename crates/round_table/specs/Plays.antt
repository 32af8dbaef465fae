-- What each step of the table makes of the seat that takes it, and what it tells.
use Rattle.std.specs.Prelude.{◌≡◌, ◌≢◌, ℕ, ◌^◌, ◌<◌, ◌≤◌, ◌↔◌, List, [], ◌∷◌, ◌++◌, Option, Some, slice_get}
use Rattle.atomic_table.specs.Table.{Me, Step}
use Rattle.round_table.specs.declared.view.Hand.{Hand}
use Rattle.round_table.specs.declared.view.View.{View}
use Rattle.round_table.specs.Counts.{times}
use Rattle.round_table.specs.Rounds.{claims_of}

-- the hands of one pass, with one bucket more
abbrev pub with_claim : ℕ → List Hand → List Hand
with_claim b [] = []
with_claim b (h ∷ hands) = record { number = h.number; claims = h.claims ++ b ∷ [] } ∷ hands

abbrev pub claims : {T : Type 0} → View T → ℕ → View T
claims v b = record { contents = v.contents; workers = v.workers; hands = with_claim b v.hands }

-- A claim: the content comes to the pass; or the bucket is another's, or its own.
abbrev pub Told : {T : Type 0} → Step (Option T) → Me (Option T) (View T) → ℕ → Me (Option T) (View T) → Type 0
Told {T} st m found m' =
    (found ≡ 0 → (c : T) × (slice_get m.0.contents st.word ≡ Some c) × (m'.0 ≡ claims m.0 st.word)
    × (m'.1 ≡ (st.word, Some c) ∷ m.1) × (times st.word (claims_of m.0.hands) ≡ 0))
    × (found ≢ 0 → (m' ≡ m) × (found ≤ m.0.workers) × (found < 2 ^ 32) ×
    ((found ≡ st.second) ↔ (0 < times st.word (claims_of m.0.hands))))

-- the first hand of a view, and the others
abbrev pub first_hand : List Hand → List Hand
first_hand [] = []
first_hand (h ∷ hands) = h ∷ []

abbrev pub other_hands : List Hand → List Hand
other_hands [] = []
other_hands (h ∷ hands) = hands

abbrev pub first_of : {T : Type 0} → View T → View T
first_of v = record { contents = v.contents; workers = v.workers; hands = first_hand v.hands }

abbrev pub but_first : {T : Type 0} → View T → View T
but_first v = record { contents = v.contents; workers = v.workers; hands = other_hands v.hands }

-- a view with no hand
abbrev pub emptied : {T : Type 0} → View T → View T
emptied v = record { contents = v.contents; workers = v.workers; hands = [] }

abbrev pub spent : {T : Type 0} → View T
spent = record { contents = []; workers = 0; hands = [] }

-- two views as one
abbrev pub joins : {T : Type 0} → View T → View T → View T
joins v w = record { contents = w.contents; workers = w.workers; hands = v.hands ++ w.hands }

-- a new seat stands for no pass
abbrev pub Comes : {T : Type 0} → Step (Option T) → Me (Option T) (View T) → ℕ → Me (Option T) (View T) → Type 0
Comes st m found m' = m'.0 ≡ spent
