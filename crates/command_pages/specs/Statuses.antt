-- The statuses of a run, and the line that each has on standard error.
use Rattle.std.specs.Prelude.{◌≡◌, ◌⊎◌, ◌<◌, ℕ, List, ◌++◌, codes, decimal, Option, IfSome}
use Rattle.text_readings.specs.declared.fault.Why.{Why}
use Rattle.text_readings.specs.declared.fault.Why.TheVariants.{Section, Field, Range, TooMany, Truncated}
use Rattle.text_readings.specs.declared.fault.Fault.{Fault}

-- the run ended before the input was read to its end or its limit: for want of memory, for its words, or by a fault
-- of the source
abbrev pub IsEarly : ℕ → Type 0
IsEarly status = (status ≡ 1) ⊎ (status ≡ 2) ⊎ (status ≡ 3)

-- the whole text was written: the status is 0, or one above 7, which tells of what was made
abbrev pub IsWrittenWhole : ℕ → Type 0
IsWrittenWhole status = (status ≡ 0) ⊎ (7 < status)

-- a text was made, and written whole or, where the output failed, a front of it
abbrev pub HasText : ℕ → Type 0
HasText status = IsWrittenWhole status ⊎ (status ≡ 4)

abbrev pub why_word : Why → List ℕ
why_word Section = codes "Section"
why_word Field = codes "Field"
why_word Range = codes "Range"
why_word TooMany = codes "TooMany"
why_word Truncated = codes "Truncated"

-- the line of status 5: the number of the bad line, from 1, and why it is bad
abbrev pub fault_line : Fault → List ℕ
fault_line fault = codes "delaunay: line " ++ decimal fault.line ++ codes ": " ++ why_word fault.why ++ codes "\n"

-- the line of a fault, and where the source told its bytes, of their fault, where `P` says what a fault of bytes is
pub record IsLineOf (P : List ℕ → Fault → Type 0) (left : Option (List ℕ)) (line : List ℕ) : Type 0 where
  pub fault : Fault
  pub line_is : line ≡ fault_line fault
  pub cause : IfSome left (λ bytes. P bytes fault)
