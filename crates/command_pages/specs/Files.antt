-- A file that is read: what is made of it, and why no mesh is.
use Rattle.std.specs.Prelude.{◌≡◌, ◌≤◌, ◌<◌, ℕ, List, length, true, false, Option, IfSome, String, ⊤}
use Rattle.std.specs.declared.alloc.Global.{Global}
use Rattle.point_order.specs.Solid.{is_solid}
use Rattle.edit_history.specs.declared.history.Entry.{Entry}
use Rattle.edit_files.specs.Content.{Content}
use Rattle.edit_files.specs.Faults.{IsFault}
use Rattle.edit_files.specs.Grammar.{IsFile}
use Rattle.command_words.specs.declared.stop.Stop.{Stop}
use Rattle.command_words.specs.declared.stop.Stop.TheVariants.{Memory, ReadFault, BadLine, Flat, TooLong}
use Rattle.command_words.specs.Words.{worker_count}
use Rattle.command_pages.specs.Command.{Command}
use Rattle.command_pages.specs.Run.{IsKept, file_limits, input_limit}
use Rattle.command_pages.specs.Statuses.{IsLineOf}

-- The bytes, within the limit, are a solid file, which the history keeps for a number of workers, and of this file
-- `P` holds.
pub record IsOfFile (workers : ℕ) (h : List Entry) (P : Content → Type 0) (bytes : List ℕ) : Type 0 where
  pub within : length bytes ≤ input_limit
  pub file : Content
  pub is_file : IsFile file_limits bytes file
  pub solid : is_solid file.points ≡ true
  pub kept : IsKept file workers h
  pub text_is : P file

-- the bytes are within the limit, and a file whose points lie in one plane
abbrev pub IsFlatFile : List ℕ → Type 0
IsFlatFile bytes =
    (length bytes ≤ input_limit) × ((file : Content) × IsFile file_limits bytes file × (is_solid file.points ≡ false))

-- why there is no mesh of a file, where the source had these bytes left, and by whether it failed
abbrev pub HasNoMesh : Option (List ℕ) → Type 0 → Stop → Type 0
HasNoMesh left failed Memory = ⊤
HasNoMesh left failed ReadFault = failed
HasNoMesh left failed (BadLine line) =
    IsLineOf (IsFault file_limits) left line.items × IfSome left (λ bytes. length bytes ≤ input_limit)
HasNoMesh left failed Flat = IfSome left IsFlatFile
HasNoMesh left failed TooLong = IfSome left (λ bytes. input_limit < length bytes)
HasNoMesh left failed stop = ⊥

-- A command that reads a file, and makes one text of it: `P` says of which history and text, by the words and the file.
abbrev pub of_file : (List (String Global) → List Entry → List ℕ → Content → Type 0) → Command
of_file P =
    record {
      limit = input_limit;
      is_fault = λ bytes fault. IsFault file_limits bytes fault;
      makes = λ words left late h text. (late ≡ 0) × IfSome left (IsOfFile (worker_count words) h (P words h text));
      makes_none = λ left failed stop. HasNoMesh left failed stop;
    }
