-- The promise of a run.
use Rattle.std.specs.Prelude.{◌≡◌, ◌⊎◌, ◌+◌, ◌%◌, ◌≤◌, ℕ, All, List, length, Bool, true, Option}
use Rattle.std.specs.Io.KnownBytes.{Appends, Consumes, IsAtEnd}
use Rattle.byte_ends.specs.Ends.{AppendsFront}
use Rattle.point_order.specs.Solid.{is_solid}
use Rattle.edit_history.specs.declared.history.Entry.{Entry}
use Rattle.edit_history.specs.Edits.{point_of}
use Rattle.edit_history.specs.OneThread.{Keeps, one_thread}
use Rattle.edit_files.specs.Content.{Content}
use Rattle.edit_files.specs.declared.version.Version.TheVariants.{Four}
use Rattle.edit_files.specs.Grammar.{IsFile, Limits, up_to}
use Rattle.edit_files.specs.Faults.{IsFault}
use Rattle.text_readings.specs.declared.fault.Fault.{Fault}
use Rattle.command_pages.specs.Report.{text_of_history}
use Rattle.command_pages.specs.Statuses.{IsEarly}

-- which files a run takes: those of each version, 1 to 4
abbrev pub file_limits : Limits
file_limits = up_to Four

-- how many bytes an input may have: 16,777,216
abbrev pub input_limit : ℕ
input_limit = 16777216

-- how many the text of a mesh may have, since reports are longer: 1,073,741,824
abbrev pub mesh_limit : ℕ
mesh_limit = 1073741824

-- the history of one thread that makes the file's lines its edits
abbrev pub history_of : Content → List Entry
history_of file = one_thread file.points file.edits

-- each entry is by 0, or by the worker that its point names: its key modulo the number of workers
abbrev pub AreDealt : ℕ → List Entry → Type 0
AreDealt workers h = All (λ e. (e.by ≡ 0) ⊎ (e.by ≡ point_of e.edit % workers)) h

-- The history keeps the file for a number of workers, its lines dealt to them; for one it is the history of one thread.
pub record IsKept (file : Content) (workers : ℕ) (h : List Entry) : Type 0 where
  pub keeps : Keeps file.points file.edits workers h
  pub alone : workers ≡ 1 → h ≡ history_of file
  pub dealt : AreDealt workers h

-- Bytes that were taken of a source, one more than a limit at most; all that it told, unless it was left early.
-- Where it was one more, the input is too long, or memory is wanting.
pub record ReadsTo (limit : ℕ) (left_old left_new : Option (List ℕ)) (status : ℕ) : Type 0 where
  pub taken : List ℕ
  pub consumed : Consumes left_old left_new taken
  pub within : length taken ≤ limit + 1
  pub whole : (IsEarly status → ⊥) → IsAtEnd left_new ⊎ (length taken ≡ limit + 1)
  pub past : length taken ≡ limit + 1 → (status ≡ 7) ⊎ (status ≡ 1)

-- the output gained the text of the file that the bytes are, and of the history, with shapes or without, and with its
-- order block or not
abbrev pub Writes : Bool → Bool → List ℕ → Option (List ℕ) → Option (List ℕ) → List Entry → Type 0
Writes shape order bytes old new kept =
    (file : Content) × IsFile file_limits bytes file × Appends old new (text_of_history shape order file kept)

-- the output gained a front of it
abbrev pub WritesFront : Bool → Bool → List ℕ → Option (List ℕ) → Option (List ℕ) → List Entry → Type 0
WritesFront shape order bytes old new kept =
    (file : Content) × IsFile file_limits bytes file × AppendsFront old new (text_of_history shape order file kept)

-- the bytes are a solid file within the limit
abbrev pub IsSolidFile : List ℕ → Type 0
IsSolidFile bytes =
    (length bytes ≤ input_limit) × ((file : Content) × IsFile file_limits bytes file × (is_solid file.points ≡ true))

-- the bytes are no file, and have a fault
abbrev pub HasFault : List ℕ → Type 0
HasFault bytes = (fault : Fault) × IsFault file_limits bytes fault
