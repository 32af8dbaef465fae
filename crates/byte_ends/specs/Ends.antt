-- The words for what a source and a sink of bytes do: counts of faults, and text that arrived in part.
-- The words for told bytes, `Consumes`, `Appends`, `Keeps` and `IsAtEnd`, are
-- those of `Rattle.std.specs.Io.KnownBytes`.
use Rattle.std.specs.Prelude.{◌≡◌, ℕ, ◌+◌, ◌-◌, ◌^◌, ◌≤◌, min, List, ◌++◌, length, Result, OnErr}
use Rattle.std.specs.declared.option.Option.{Option}
use Rattle.std.specs.Io.KnownBytes.{Appends, Consumes}

-- one more than a count, in 64 bits: at its last value a count stands still
abbrev pub one_more : ℕ → ℕ
one_more count = min (count + 1) (2 ^ 64 - 1)

-- the count rose since: it is greater now, or it stands at its last value
abbrev pub Rose : ℕ → ℕ → Type 0
Rose before now = one_more before ≤ now

-- a count of faults never falls, and a call fails only where it rose in this call
pub record HasCause {T E : Type 0} (before now : ℕ) (result : Result T E) : Type 0 where
  pub later : before ≤ now
  pub failed : OnErr result (Rose before now)

-- told bytes grew by a front of the text, which may be none or all of it
pub record AppendsFront (before after : Option (List ℕ)) (text : List ℕ) : Type 0 where
  pub front : List ℕ
  pub rest : List ℕ
  pub parts : text ≡ front ++ rest
  pub appended : Appends before after front

-- some bytes, no more than the limit, left the source and stand behind what the list had
pub record TakesInto (before after : Option (List ℕ)) (old new : List ℕ) (limit : ℕ) : Type 0 where
  pub taken : List ℕ
  pub consumed : Consumes before after taken
  pub within : length taken ≤ limit
  pub kept : new ≡ old ++ taken
