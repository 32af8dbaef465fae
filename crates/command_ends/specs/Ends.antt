-- How a run ends, and what it tells.
use Rattle.std.specs.Prelude.{◌≡◌, ◌≢◌, ◌⊎◌, ◌↔◌, ◌≤◌, ℕ, List, [], Option, String, ⊤}
use Rattle.std.specs.declared.alloc.Global.{Global}
use Rattle.std.specs.Io.KnownBytes.{Appends, Keeps, IsAtEnd}
use Rattle.byte_ends.specs.Ends.{AppendsFront, Rose}
use Rattle.edit_history.specs.declared.history.Entry.{Entry}
use Rattle.edit_history.specs.Histories.{IsLegal}
use Rattle.command_words.specs.declared.stop.Stop.{Stop}
use Rattle.command_words.specs.declared.stop.Stop.TheVariants.{Memory, Usage}
use Rattle.command_words.specs.Lines.{plain_line, status_of}
use Rattle.command_words.specs.Words.{Kind, ReadsSource, AreWordsTaken}
use Rattle.command_pages.specs.Run.{ReadsTo}
use Rattle.command_pages.specs.Statuses.{HasText, IsLineOf, IsWrittenWhole}
use Rattle.command_ends.specs.Commands.{command_of, command_of_words}

-- the words are taken, and this is the history and the text that their command makes
abbrev pub IsMadeOfWords : List (String Global) → Option (List ℕ) → ℕ → List Entry → List ℕ → Type 0
IsMadeOfWords words left late h text = AreWordsTaken words × (command_of_words words).makes words left late h text

-- why nothing is made, where the source had these bytes left, and by whether it failed
abbrev pub IsUnmade : List (String Global) → Option (List ℕ) → Type 0 → Stop → Type 0
IsUnmade words left failed Memory = ⊤
IsUnmade words left failed Usage = AreWordsTaken words → ⊥
IsUnmade words left failed stop = AreWordsTaken words × (command_of_words words).makes_none left failed stop

-- How the words are done: this history and this text are made, and the status is what is told of them where the text is
-- written whole, and 4 where it is cut off, which is not empty; or nothing is made, and the status says why.
abbrev pub IsDone : List (String Global) → Option (List ℕ) → Type 0 → ℕ → List Entry → List ℕ → Type 0
IsDone words left failed status h text =
    ((late : ℕ) × IsMadeOfWords words left late h text × ((status ≡ late) ⊎ ((status ≡ 4) × (text ≢ []))))
    ⊎ ((stop : Stop) × IsUnmade words left failed stop × (status ≡ status_of stop) × (h ≡ []) × (text ≡ []))

-- The end of a run: its status and history, by what the source told before and after, what the output held and holds,
-- and whether each failed. Each status comes exactly with its cause; want of memory (1) alone is free.
pub record Ends (words : List (String Global)) (left_old left_new : Option (List ℕ)) (read_failed : Type 0)
    (held holds : Option (List ℕ)) (write_failed : Type 0) (status : ℕ) (h : List Entry) : Type 0 where
  pub statuses : status ≤ 10
  pub usage : status ≢ 1 → (status ≡ 2 ↔ (AreWordsTaken words → ⊥))
  pub read_fault : status ≡ 3 → read_failed
  pub write_fault : status ≡ 4 → write_failed
  pub reads : ReadsSource words → ReadsTo (command_of_words words).limit left_old left_new status
  pub to_its_end : ReadsSource words → IsWrittenWhole status → IsAtEnd left_new
  pub legal : IsLegal h
  pub text : List ℕ
  pub done : IsDone words left_old read_failed status h text
  pub whole : IsWrittenWhole status → Appends held holds text
  pub front : status ≡ 4 → AppendsFront held holds text
  pub none_kept : (HasText status → ⊥) → h ≡ []
  pub nothing : (HasText status → ⊥) → Keeps held holds

-- The line that a run of a command tells at its end, where the source had these bytes left, if it tells them.
pub record IsToldLine (kind : Kind) (left : Option (List ℕ)) (status : ℕ) (line : List ℕ) : Type 0 where
  pub plain : status ≢ 5 → line ≡ plain_line status
  pub bad : status ≡ 5 → IsLineOf (command_of kind).is_fault left line

-- a front of that line was told, and all of it where the count of faults did not rise
pub record Tells (kind : Kind) (left old new : Option (List ℕ)) (faults_old faults_new status : ℕ) : Type 0 where
  pub line : List ℕ
  pub is_line : IsToldLine kind left status line
  pub front : AppendsFront old new line
  pub whole : (Rose faults_old faults_new → ⊥) → Appends old new line

-- The words of a run, what its source told before and after, what its output held and holds, the counts of faults of
-- each before and after, its status, the history that it kept, and what `run` ensures of these.
pub record ARun : Type 0 where
  pub words : List (String Global)
  pub left : Option (List ℕ)
  pub left_after : Option (List ℕ)
  pub read_faults : ℕ
  pub read_faults_after : ℕ
  pub held : Option (List ℕ)
  pub holds : Option (List ℕ)
  pub write_faults : ℕ
  pub write_faults_after : ℕ
  pub status : ℕ
  pub kept : List Entry
  pub ends : Ends words left left_after (Rose read_faults read_faults_after) held holds
      (Rose write_faults write_faults_after) status kept
