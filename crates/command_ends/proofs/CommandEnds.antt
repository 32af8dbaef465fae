-- What follows of the end of a run, command by command: of its status, what the source had left, history and text.
use Rattle.std.specs.declared.alloc.Global.{Global}
use Rattle.std.specs.Prelude.{Option, IfSome, String}
use Rattle.std.proofs.Common.{◌≡◌, ◌≢◌, ◌⊎◌, ◌↔◌, ◌<◌, ◌≤◌, ℕ, Bool, List, [], false, length}
use Rattle.point_order.specs.Solid.{is_solid}
use Rattle.edit_history.specs.declared.history.Entry.{Entry}
use Rattle.edit_files.specs.Content.{Content}
use Rattle.edit_files.specs.Grammar.{IsFile}
use Rattle.command_words.specs.Words.{Checks, Draws, Kind, Parts, Queries, Reports, Steps, asked_alpha, asked_index}
use Rattle.command_words.specs.Words.{asked_most, asks_order, asks_shape, asks_text, worker_count}
use Rattle.command_pages.specs.Checked.{HasMeshFault, IsChecked}
use Rattle.command_pages.specs.Run.{HasFault, file_limits, input_limit, mesh_limit}
use Rattle.command_pages.specs.Statuses.{HasText, IsEarly, IsWrittenWhole}
use Rattle.command_ends.specs.Drawn.{IsDrawn, drawn_file}
use Rattle.command_ends.specs.Meshed.{IsQueriedFile, IsReported, IsSteppedFile}
use Rattle.command_ends.specs.Parted.{IsPartedFile}

-- The statuses 7, 5 and 6 tell of the bytes of a file.
pub record TellsOfBytes (status : ℕ) (bytes : List ℕ) : Type 0 where
  pub too_long : status ≡ 7 ↔ (input_limit < length bytes)
  pub bad_line : status ≢ 7 → (status ≡ 5 ↔ HasFault bytes)
  pub not_solid : status ≢ 7 → (file : Content) → IsFile file_limits bytes file →
      (status ≡ 6 ↔ (is_solid file.points ≡ false))

-- The statuses 7 and 5 tell of the bytes of a mesh.
pub record IsMeshVerdict (status : ℕ) (bytes : List ℕ) : Type 0 where
  pub too_long : status ≡ 7 ↔ (mesh_limit < length bytes)
  pub bad_line : status ≢ 7 → (status ≡ 5 ↔ HasMeshFault bytes)

-- of a run that makes one text of a file, where `P` says of what bytes it is made
pub record FileEnds (P : List ℕ → Type 0) (left : Option (List ℕ)) (status : ℕ) : Type 0 where
  pub statuses : status ≤ 7
  pub verdict : (IsEarly status → ⊥) → IfSome left (TellsOfBytes status)
  pub made : HasText status → IfSome left P

-- of one that tells of parts, of whose text on 4 a front is written
pub record PartEnds (workers alpha most : ℕ) (index : Option ℕ) (left : Option (List ℕ)) (status : ℕ) (h : List Entry)
    (text : List ℕ) : Type 0 where
  pub statuses : status ≤ 9
  pub verdict : (IsEarly status → ⊥) → IfSome left (TellsOfBytes status)
  pub made : IsWrittenWhole status → IfSome left (IsPartedFile workers alpha most index status h text)
  pub cut : status ≡ 4 → IfSome left (IsPartedFile workers alpha most index 0 h text)
  pub nothing : 7 < status → text ≡ []

-- of one that judges a mesh
pub record CheckEnds (left : Option (List ℕ)) (status : ℕ) (h : List Entry) (text : List ℕ) : Type 0 where
  pub statuses : (status ≤ 5) ⊎ (status ≡ 7) ⊎ (status ≡ 10)
  pub no_history : h ≡ []
  pub verdict : (IsEarly status → ⊥) → IfSome left (IsMeshVerdict status)
  pub made : IsWrittenWhole status → IfSome left (IsChecked status text)
  pub cut : status ≡ 4 → IfSome left (λ bytes. (late : ℕ) × IsChecked late text bytes)

-- and of one that draws a file
pub record DrawEnds (text : Bool) (workers : ℕ) (file : Content) (status : ℕ) (h : List Entry)
    (written : List ℕ) : Type 0 where
  pub statuses : status ≤ 2 ⊎ (status ≡ 4)
  pub made : HasText status → IsDrawn text workers file h written

-- what follows of the end of a run of a command of a kind
abbrev pub ends_of : Kind → List (String Global) → Option (List ℕ) → ℕ → List Entry → List ℕ → Type 0
ends_of Reports words left status h text =
    FileEnds (IsReported (worker_count words) (asks_shape words) (asks_order words) h text) left status
ends_of Steps words left status h text = FileEnds (IsSteppedFile (worker_count words) h text) left status
ends_of Parts words left status h text =
    PartEnds (worker_count words) (asked_alpha words) (asked_most words) (asked_index words) left status h text
ends_of Queries words left status h text = FileEnds (IsQueriedFile (worker_count words) h text) left status
ends_of Checks words left status h text = CheckEnds left status h text
ends_of Draws words left status h text =
    DrawEnds (asks_text words) (worker_count words) (drawn_file words) status h text
