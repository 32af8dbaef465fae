-- A table that is closed.
use Rattle.std.specs.Prelude.{◌≡◌, ℕ, zero, suc, ◌-◌, ◌<◌, ◌≤◌, Bool, true, false, List, map, length, Option, None}
use Rattle.std.specs.Prelude.{slice_get, slice_index, slice_index_or}
use Rattle.std.specs.List.{range_with_len, flat_map}
use Rattle.atomic_table.specs.Seated.{TableId}
use Rattle.round_table.specs.declared.view.Key.{Key}
use Rattle.round_table.specs.declared.view.Hand.{Hand}
use Rattle.round_table.specs.declared.view.View.{View}
use Rattle.round_table.specs.declared.worker.Worker.{Worker}
use Rattle.round_table.specs.Rounds.{Opened, fresh}
use Rattle.round_table.specs.Workers.{passes_of, states_of}
use Rattle.round_table.specs.Rule.{contents_of, empty_hand}

-- a table with this key, as contracts see it
abbrev pub opened_as : {T : Type 0} → TableId → Key T → Opened T
opened_as id k = record { id = id; workers = k.workers; contents = contents_of k }

-- the hand of a worker's pass
abbrev pub hand_of : {T S : Type 0} → Worker T S → Hand
hand_of w = record { number = w.pass.number; claims = w.pass.claims }

-- what all hands have claimed
abbrev pub claims_in_all : List Hand → List ℕ
claims_in_all hands = flat_map (λ h. h.claims) hands

-- what a bucket has, where its word is this
abbrev pub left_if : {X : Type 0} → ℕ → Option X → Option X
left_if zero o = o
left_if (suc n) o = None

abbrev pub left_at : {T : Type 0} → List ℕ → List T → ℕ → Option T
left_at words contents b = left_if (slice_index words b) (slice_get contents b)

-- The slots below b were taken out of, and what was left in them stands in the list.
pub record IsEmptying {T : Type 0} (words words' : List ℕ) (slots slots' : List (Option T)) (len len' : ℕ)
    (filled : List Bool)
    (contents : List T) (rest : List (Option T)) (b : ℕ) : Type 0 where
  pub words_are : words' ≡ words
  pub slots_are : slots' ≡ slots
  pub len_is : len' ≡ len
  pub taken : (j : ℕ) → j < b → slice_index_or filled j false ≡ false
  pub full : (j : ℕ) → b ≤ j → j < len → slice_index_or filled j false ≡ true
  pub rest_is : rest ≡ map (left_at words contents) (range_with_len 0 b)

-- Seats were dealt to the first workers; the seat that is left stands for the other passes.
pub record IsDealing {T S : Type 0} (id : TableId) (k : Key T) (own : TableId) (v : View T) (workers : List
    (Worker T S))
    (states : List S) (number : ℕ) : Type 0 where
  pub number_is : number ≡ length states
  pub table : own ≡ id
  pub view : v ≡ record {
    contents = contents_of k;
    workers = k.workers;
    hands = map empty_hand (range_with_len number (k.workers - number));
  }
  pub passes : passes_of workers ≡ map (fresh (opened_as id k)) (range_with_len 0 number)
  pub states_are : states_of workers ≡ states
