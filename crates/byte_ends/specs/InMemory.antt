-- What callers see of a source and a sink in memory.
use Rattle.std.specs.Prelude.{ℕ, ◌-◌, min, List, ◌++◌, length, take, drop, Contains}
use Rattle.byte_ends.specs.Ends.{one_more}

-- the calls of an end: the numbers of those that are to fail, how many were made, and how many failed
pub record Calls : Type 0 where
  pub fails : List ℕ
  pub made : ℕ
  pub faults : ℕ

-- the number of the next call, the first being 1, is one of those that are to fail
abbrev pub NextFails : Calls → Type 0
NextFails calls = Contains calls.fails (one_more calls.made)

-- one more call was answered
abbrev pub after_answer : Calls → Calls
after_answer calls = record calls { made = one_more calls.made }

-- one more call was made, and it failed
abbrev pub after_fault : Calls → Calls
after_fault calls = record calls { made = one_more calls.made; faults = one_more calls.faults }

-- a source: the bytes that are left, and the most that a call gives
pub record SourceState : Type 0 where
  pub left : List ℕ
  pub step : ℕ
  pub calls : Calls

-- a sink: the bytes that it holds, the most that it can hold, and the most that a call takes
pub record SinkState : Type 0 where
  pub bytes : List ℕ
  pub room : ℕ
  pub step : ℕ
  pub calls : Calls

-- how many bytes a call gives to a buffer of this length
abbrev pub given_count : SourceState → ℕ → ℕ
given_count source buffer = min source.step (min buffer (length source.left))

-- how many bytes a call takes of a piece of this length
abbrev pub taken_count : SinkState → ℕ → ℕ
taken_count sink piece = min sink.step (min piece (sink.room - length sink.bytes))

-- the source gave its first bytes
abbrev pub after_read : SourceState → ℕ → SourceState
after_read source count = record source { left = drop count source.left; calls = after_answer source.calls }

-- the sink took the first bytes of a piece
abbrev pub after_write : SinkState → List ℕ → ℕ → SinkState
after_write sink piece count =
    record sink { bytes = sink.bytes ++ take count piece; calls = after_answer sink.calls }
