-- Texts line by line. A reading: which line leads from where to where, why a line is wrong where it stands, and where a
-- text may end.
use Rattle.std.specs.Prelude.{◌≡◌, ◌⊎◌, ℕ, ◌+◌, ◌==◌, List, [], ◌∷◌, ◌++◌, length, if◌then◌else◌}
use Rattle.std.specs.List.{onto_first}
use Rattle.text_readings.specs.declared.fault.Why.{Why}
use Rattle.text_readings.specs.declared.fault.Why.TheVariants.{Truncated}
use Rattle.text_readings.specs.declared.fault.Fault.{Fault}

-- A line is the bytes up to a line feed (10), or the bytes after the last line feed where there are any.
abbrev pub lines_of : List ℕ → List (List ℕ)
lines_of [] = []
lines_of (b ∷ bs) = if b == 10 then ([] ∷ lines_of bs) else onto_first b (lines_of bs)

-- the text of these lines, each with its line feed
abbrev pub text_of : List (List ℕ) → List ℕ
text_of [] = []
text_of (line ∷ lines) = line ++ 10 ∷ text_of lines

-- the lines are right, one after another
abbrev pub AllLead : {S : Type 0} → (S → List ℕ → S → Type 0) → List (List ℕ) → S → S → Type 0
AllLead Leads [] a b = a ≡ b
AllLead {S} Leads (line ∷ lines) a b = (m : S) × Leads a line m × AllLead Leads lines m b

-- a reading, whose places are those of S
pub record Reading (S : Type 0) : Type 1 where
  pub Leads : S → List ℕ → S → Type 0
  pub IsReason : S → List ℕ → Why → Type 0
  pub IsEnd : S → Type 0

-- the first wrong line: its number, from 1, and why it is wrong
pub record IsWrongLine {S : Type 0} (R : Reading S) (start : S) (lines : List (List ℕ)) (fault : Fault) : Type 0 where
  pub front : List (List ℕ)
  pub line : List ℕ
  pub rest : List (List ℕ)
  pub place : lines ≡ front ++ line ∷ rest
  pub at : S
  pub right_so_far : AllLead R.Leads front start at
  pub number : fault.line ≡ length front + 1
  pub reason : R.IsReason at line fault.why

-- all lines are right, and more are to come
pub record IsCutOff {S : Type 0} (R : Reading S) (start : S) (lines : List (List ℕ)) (fault : Fault) : Type 0 where
  pub at : S
  pub right : AllLead R.Leads lines start at
  pub more : R.IsEnd at → ⊥
  pub number : fault.line ≡ length lines + 1
  pub truncated : fault.why ≡ Truncated

-- the lines lead to no end, and this is their fault
abbrev pub IsFaultOf : {S : Type 0} → Reading S → S → List (List ℕ) → Fault → Type 0
IsFaultOf R start lines fault = IsWrongLine R start lines fault ⊎ IsCutOff R start lines fault
