-- A text that is read piece by piece, as far as its pieces came.
use Rattle.std.specs.Prelude.{◌≡◌, ℕ, ◌==◌, false, List, ◌++◌, Result, Err}
use Rattle.std.specs.List.{AllByRecursion}
use Rattle.text_readings.specs.declared.fault.Fault.{Fault}
use Rattle.text_readings.specs.Judging.{judge}
use Rattle.text_readings.specs.Readings.{lines_of}
use Rattle.mesh_reader.specs.declared.pieces.State.{State}
use Rattle.mesh_reader.specs.declared.pieces.State.TheVariants.{Right, Wrong}
use Rattle.mesh_reader.specs.Grammar.{Reached, at_title}
use Rattle.mesh_reader.specs.Judging.{mesh_judge, reached}

-- no line feed (10) is among the bytes
abbrev pub HasNoFeed : List ℕ → Type 0
HasNoFeed bytes = AllByRecursion (λ b. (b == 10) ≡ false) bytes

-- what is made of the lines that follow
abbrev pub comes_to : State → List (List ℕ) → Result Reached Fault
comes_to (Right counted) lines = judge mesh_judge counted.number (reached counted.reader) lines
comes_to (Wrong fault) lines = Err fault

-- the same is made of what is left, whatever follows it, as of all of it
abbrev pub LeavesOf : State → List ℕ → State → List ℕ → Type 0
LeavesOf before all now left =
    (more : List ℕ) → comes_to now (lines_of (left ++ more)) ≡ comes_to before (lines_of (all ++ more))

-- A reader with this state and this line that is begun has taken these bytes: whatever follows them, it makes of the
-- line and of what follows the same as is made of the whole text.
pub record HasTaken (state : State) (line bytes : List ℕ) : Type 0 where
  pub begun : HasNoFeed line
  pub same : (more : List ℕ) → comes_to state (lines_of (line ++ more))
      ≡ judge mesh_judge 1 at_title (lines_of (bytes ++ more))
