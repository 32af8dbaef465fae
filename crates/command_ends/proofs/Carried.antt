-- What makes that hold which follows of the end of a run.
use Rattle.std.specs.declared.alloc.Global.{Global}
use Rattle.std.specs.Prelude.{Option, IfSome, String, Vec, ⊤}
use Rattle.std.proofs.Common.{◌≡◌, ◌≢◌, ◌⊎◌, ℕ, List, []}
use Rattle.edit_history.specs.declared.history.Entry.{Entry}
use Rattle.command_words.specs.declared.stop.Stop.{Stop}
use Rattle.command_words.specs.declared.stop.Stop.TheVariants.{BadLine}
use Rattle.command_words.specs.Lines.{status_of}
use Rattle.command_words.specs.Words.{worker_count}
use Rattle.command_pages.specs.Command.{Command}
use Rattle.command_pages.specs.Files.{IsOfFile}
use Rattle.command_pages.specs.Statuses.{HasText, IsEarly, IsLineOf}
use Rattle.command_ends.proofs.CommandEnds.{TellsOfBytes}
use Rattle.command_ends.proofs.TextStatuses.{IsOfNothing}

-- What is to follow follows of what was made, of why nothing was, and of an early end; nothing is made with one of the
-- statuses of that alone; and where a line is told to be bad, it is that of a fault of the bytes.
pub record IsCarried (command : Command)
    (ends : List (String Global) → Option (List ℕ) → ℕ → List Entry → List ℕ → Type 0) : Type 1 where
  pub made : (words : List (String Global)) (left : Option (List ℕ)) (late : ℕ) (h : List Entry) (text : List ℕ) →
      command.makes words left late h text → (status : ℕ) → (status ≡ late) ⊎ ((status ≡ 4) × (text ≢ [])) →
      ends words left status h text
  pub unmade : (words : List (String Global)) (left : Option (List ℕ)) (failed : Type 0) (stop : Stop) →
      command.makes_none left failed stop → ends words left (status_of stop) [] []
  pub early : (words : List (String Global)) (left : Option (List ℕ)) (status : ℕ) → (status ≡ 1) ⊎ (status ≡ 2) →
      ends words left status [] []
  pub stops : (left : Option (List ℕ)) (failed : Type 0) (stop : Stop) → command.makes_none left failed stop →
      IsOfNothing failed (status_of stop)
  pub told : (left : Option (List ℕ)) (failed : Type 0) (line : Vec ℕ Global) →
      command.makes_none left failed (BadLine line) → IsLineOf command.is_fault left line.items

-- Of a command that reads a file, what follows tells what the statuses say of the bytes, and that they are a file
-- which the history keeps.
pub record IsOfBytes
    (ends : List (String Global) → Option (List ℕ) → ℕ → List Entry → List ℕ → Type 0) : Type 1 where
  pub verdict : (words : List (String Global)) (left : Option (List ℕ)) (status : ℕ) (h : List Entry)
      (text : List ℕ) →
      ends words left status h text → (IsEarly status → ⊥) → IfSome left (TellsOfBytes status)
  pub kept : (words : List (String Global)) (left : Option (List ℕ)) (status : ℕ) (h : List Entry)
      (text : List ℕ) →
      ends words left status h text → HasText status → IfSome left (IsOfFile (worker_count words) h (λ file. ⊤))
