-- Laws of the ends in memory: what a call leaves of the bytes and of the calls' log, over plain variables.
use Rattle.std.proofs.Common.{◌≡◌, ℕ, ◌+◌, ◌-◌, ◌<◌, ◌≤◌, ◌⊎◌, inl, inr, List, [], ◌∷◌, ◌++◌, length, length-append}
use Rattle.std.proofs.Common.{length-drop, length-take, length-take-le, take, drop, take_all, take-append-drop, min, ap}
use Rattle.std.proofs.Common.{sym, subst, ◌∙◌, refl, true, false, Ok, Err, arith}
use Rattle.std.proofs.lemmas.List.{take_rest, take-append-le}
use Rattle.byte_ends.specs.Ends.{HasCause, one_more}
use Rattle.byte_ends.specs.InMemory.{Calls, NextFails, SinkState, SourceState, after_answer, after_fault, after_read}
use Rattle.byte_ends.specs.InMemory.{after_write}

-- a call that failed has its cause
pub faulted : {T E : Type 0} {e : E} (calls now after : Calls) → calls ≡ now → after ≡ after_fault calls →
    calls.faults ≤ after.faults → HasCause {T = T} {E = E} now.faults after.faults (Err e)
faulted calls now after is noted later =
    let counted : after.faults ≡ one_more calls.faults = ap (λ (k : Calls). k.faults) noted in
    let same : calls.faults ≡ now.faults = ap (λ (k : Calls). k.faults) is in
    record { later = omega arith; failed = omega arith }

-- a call that was answered left the faults as they were
pub answered : {T E : Type 0} {v : T} (calls now after : Calls) → calls ≡ now → after ≡ after_answer calls →
    HasCause {T = T} {E = E} now.faults after.faults (Ok v)
answered calls now after is noted =
    let counted : after.faults ≡ calls.faults = ap (λ (k : Calls). k.faults) noted in
    let same : calls.faults ≡ now.faults = ap (λ (k : Calls). k.faults) is in
    record { later = omega arith; failed = tt }

-- a list of no length
empty : (l : List ℕ) → length l ≡ 0 → l ≡ []
empty [] e = refl
empty (x ∷ l) e = absurd (omega arith)

-- a source's bytes are the front that it gave, which stands at the front of the buffer, and the rest
module _ (left new rest : List ℕ) (count : ℕ) (copied : new ≡ take count left) (fits : count ≤ length left) where
  -- as many bytes were copied
  len : length new ≡ count
  len = ap length copied ∙ length-take-le count left fits

  -- they stand at the front of the buffer
  front : take count (new ++ rest) ≡ take count left
  front = take-append-le count new rest (omega (arith, len)) ∙ take_all count new (omega (arith, len)) ∙ copied

  -- no more were given than the buffer has
  pub gave_bound : (count ≤ length (new ++ rest)) × (count ≡ length (take count (new ++ rest)))
  gave_bound = (omega (arith, length-append new rest, len), sym (ap length front ∙ length-take-le count left fits))

  -- what was left is the front that was given and what is left now
  pub gave_front : (now : List ℕ) → left ≡ now → now ≡ take count (new ++ rest) ++ take (length left - count)
      (drop count left)
  gave_front now is =
      sym is ∙ sym (ap (λ l. l ++ take (length left - count) (drop count left)) front
      ∙ ap (λ l. take count left ++ l) (take_rest left count)
      ∙ take-append-drop count left)

-- nothing is given to a buffer with room only where nothing is left
pub gave_end : (left new buffer : List ℕ) (count step m : ℕ) → new ≡ take count left → count ≡ min step m →
    m ≡ min (length buffer) (length left) → 0 < step
    → count ≡ 0 → 0 < length (new ++ drop count buffer) → take (length left - count) (drop count left) ≡ []
gave_end left new buffer count step m copied c e s z h =
    let fits : count ≤ length left = omega arith in
    let grown : length (new ++ drop count buffer) ≡ count + (length buffer - count) =
    length-append new (drop count buffer) ∙ ap (λ n. n + length (drop count buffer))
    (ap length copied ∙ length-take-le count left fits) ∙ ap (λ n. count + n) (length-drop count buffer) in
    take_rest left count ∙ empty (drop count left) (length-drop count left ∙ omega arith)

-- how many bytes a call moves
pub moved_count : (count step m n left : ℕ) → count ≡ min step m → m ≡ min n left → (step' left' : ℕ) → step ≡ step' →
    left ≡ left' → count ≡ min step' (min n left')
moved_count count step m n left c e step' left' s l = omega arith

-- a call moves no more than was asked for and than there is
pub moved_within : (count step m n left : ℕ) → count ≡ min step m → m ≡ min n left → (count ≤ n) × (count ≤ left)
moved_within count step m n left c e = (omega arith, omega arith)

-- and some where both are not none
pub moved_some : (count step m n left : ℕ) → count ≡ min step m → m ≡ min n left → 0 < step → 0 < left → 0 < n →
    0 < count
moved_some count step m n left c e s l h = omega arith

-- what a source is after it gave its first bytes
pub gave_is : (left : List ℕ) (step count : ℕ) (calls after : Calls) (now : SourceState) →
    ◌≡◌ {A = SourceState} (record { left = left; step = step; calls = calls }) now
    → after ≡ after_answer calls
    → ◌≡◌ {A = SourceState} (record { left = take (length left - count) (drop count left); step = step; calls = after })
    (after_read now count)
gave_is left step count calls after now is noted =
    ap (λ l. record { left = l; step = step; calls = after }) (take_rest left count)
    ∙ ap (λ k. record { left = drop count left; step = step; calls = k }) noted
    ∙ ap (λ s. after_read s count) is

-- a sink answers only where no failure is due and room is left
answers : (calls : Calls) (room : ℕ) (bytes : List ℕ) → (NextFails calls → false ≡ true) →
    (room - length bytes ≡ 0 → ⊥) → NextFails calls ⊎ (room ≤ length bytes) → false ≡ true
answers calls room bytes none left (inl h) = none h
answers calls room bytes none left (inr h) = absurd (left (omega arith))

-- with no failure due and room left it answers, and else it does not
pub answered_only : (bytes : List ℕ) (room step : ℕ) (calls : Calls) (now : SinkState) →
    ◌≡◌ {A = SinkState} (record { bytes = bytes; room = room; step = step; calls = calls }) now
    → (NextFails calls → false ≡ true) → (room - length bytes ≡ 0 → ⊥)
    → (false ≡ true → NextFails now.calls ⊎ (now.room ≤ length now.bytes))
    × (NextFails now.calls ⊎ (now.room ≤ length now.bytes) → false ≡ true)
answered_only bytes room step calls now is none left = (
  λ e. absurd (cc e),
  subst (λ (s : SinkState). NextFails s.calls ⊎ (s.room ≤ length s.bytes) → false ≡ true) is
      (answers calls room bytes none left),
)

-- what a sink is after it took the first bytes of a piece
pub took_is : (bytes piece new : List ℕ) (room step count : ℕ) (calls after : Calls) (now : SinkState)
    → ◌≡◌ {A = SinkState} (record { bytes = bytes; room = room; step = step; calls = calls }) now →
    new ≡ bytes ++ take count piece → after ≡ after_answer calls
    → ◌≡◌ {A = SinkState} (record { bytes = new; room = room; step = step; calls = after })
    (after_write now piece count)
took_is bytes piece new room step count calls after now is grown noted =
    ap (λ l. record { bytes = l; room = room; step = step; calls = after }) grown
    ∙ ap (λ k. record { bytes = bytes ++ take count piece; room = room; step = step; calls = k }) noted
    ∙ ap (λ s. after_write s piece count) is

-- what is not zero is positive
pub some_left : (n : ℕ) → (n ≡ 0 → ⊥) → 0 < n
some_left n h = omega arith

-- the bytes that a sink takes fit into its room, and so into its memory
module _ (piece : List ℕ) (old len count room : ℕ) (held : old ≤ room) (is : len ≡ old) (h : count ≤ room - len) where
  -- the bytes with these fit into the room
  pub within_room : (new : ℕ) → new ≡ old + length (take count piece) → new ≤ room
  within_room new e = omega (arith, length-take count piece)

  -- and so into the memory
  pub within_memory : (capacity : ℕ) → room ≤ capacity → old + length (take count piece) ≤ capacity
  within_memory capacity k = omega (arith, length-take count piece)

-- what fits a list fits one that is longer
pub still_fits : (room old new : ℕ) → room ≤ old → old ≤ new → room ≤ new
still_fits room old new h k = omega arith
